-- However far the list of stems in reach was gone through, it is one list up to there.
use Rattle.std.proofs.Common.{◌≡◌, ℕ, zero, suc, ◌+◌, ◌<◌, ◌≤◌, List, [], ◌∷◌, ◌++◌, flat_map, take, drop, length, slice_get, Some, refl, sym, ap, ◌∙◌, arith, append_assoc}
use Rattle.std.proofs.lemmas.List.{take-append-drop}
use Rattle.std.proofs.lemmas.List.Concat.{flat_map-append}
use Rattle.std.proofs.lemmas.Option.{get_or_from_slice_get, slice_get_within}
use Rattle.ips_text.proofs.Lists.{take_item}
use Rattle.ips_request.specs.Stems.{firsts, put_all}
use Rattle.ips_request.specs.Case.{Case}
use Rattle.ips_request.proofs.Lookups.{put_all_append}
use Rattle.ips_problem.specs.Reach.{drawn_in, grown, seeds, IsReach}
use Rattle.ips_problem.proofs.Growth.{put_prefix}

-- So many stems of the list were gone through: it has grown so far, and each stem stood on it before its turn.
pub record IsWalk (c : Case) (reach : List (List ℕ)) (turns : ℕ) : Type 0 where
  pub grows : reach ≡ grown c reach turns
  pub on_list : (k : ℕ) → k < turns → k < length (grown c reach k)

pub whole_walk : (c : Case) (reach : List (List ℕ)) → IsReach c reach → IsWalk c reach (length reach)
whole_walk c reach is = record { grows = is.whole; on_list = is.before_turn }

pub take_fewer : {A : Type 0} (k m : ℕ) (xs : List A) → k ≤ m → take k (take m xs) ≡ take k xs
take_fewer zero m xs l = refl
take_fewer (suc k) zero xs l = absurd (omega arith)
take_fewer (suc k) (suc m) [] l = refl
take_fewer (suc k) (suc m) (x ∷ xs) l = ap (λ ys. x ∷ ys) (take_fewer k m xs (omega arith))

-- what the list became once k stems were gone through, with what the later ones drew in
grows_on : (c : Case) (a : List (List ℕ)) (m k : ℕ) → IsWalk c a m → k ≤ m → a ≡ put_all (grown c a k) (flat_map (drawn_in c) (drop k (take m a)))
grows_on c a m k w l =
    let before = flat_map (drawn_in c) (take k a) in
    let behind = flat_map (drawn_in c) (drop k (take m a)) in
    w.grows
    ∙ ap (λ ss. firsts (seeds c ++ flat_map (drawn_in c) ss)) (sym (take-append-drop k (take m a)) ∙ ap (λ ss. ss ++ drop k (take m a)) (take_fewer k m a l))
    ∙ ap (λ ds. firsts (seeds c ++ ds)) (flat_map-append (drawn_in c) (take k a) (drop k (take m a)))
    ∙ ap firsts (sym (append_assoc (seeds c) before behind))
    ∙ put_all_append [] (seeds c ++ before) behind

-- so the list as it was is a front of it
pub front : (c : Case) (a : List (List ℕ)) (m k j : ℕ) → IsWalk c a m → k ≤ m → j ≤ length (grown c a k) → take j a ≡ take j (grown c a k)
front c a m k j w l few = ap (take j) (grows_on c a m k w l) ∙ put_prefix j (grown c a k) (flat_map (drawn_in c) (drop k (take m a))) few

-- two lists begin with the same stems
pub alike : (c : Case) (a b : List (List ℕ)) (m n k : ℕ) → IsWalk c a m → IsWalk c b n → k ≤ m → k ≤ n → take k a ≡ take k b
alike c a b m n zero v w l h = refl
alike c a b m n (suc k) v w l h =
    let before = alike c a b m n k v w (omega arith) (omega arith) in
    let here = v.on_list k (omega arith) in
    let there = w.on_list k (omega arith) in
    front c a m k (suc k) v (omega arith) (omega arith)
    ∙ ap (λ ss. take (suc k) (firsts (seeds c ++ flat_map (drawn_in c) ss))) before
    ∙ sym (front c b n k (suc k) w (omega arith) (omega arith))

-- and had grown alike by then
pub grown_alike : (c : Case) (a b : List (List ℕ)) (m n k : ℕ) → IsWalk c a m → IsWalk c b n → k ≤ m → k ≤ n → grown c a k ≡ grown c b k
grown_alike c a b m n k v w l h = ap (λ ss. firsts (seeds c ++ flat_map (drawn_in c) ss)) (alike c a b m n k v w l h)

-- the stem whose turn has come in the one, where the other went on, has had its turn there
pub turn_alike : (c : Case) (a b : List (List ℕ)) (m n : ℕ) (stem : List ℕ) → IsWalk c a m → IsWalk c b n → m < n → slice_get a m ≡ Some stem → take (m + 1) b ≡ take m a ++ stem ∷ []
turn_alike c a b m n stem v w l at =
    let within = slice_get_within a m stem at in
    let same : grown c b m ≡ a = sym (grown_alike c a b m n m v w (omega arith) (omega arith)) ∙ sym v.grows in
    let there = w.on_list m l in
    front c b n m (m + 1) w (omega arith) (omega arith)
    ∙ ap (take (m + 1)) same
    ∙ take_item a m stem within (sym (get_or_from_slice_get a m stem stem at))

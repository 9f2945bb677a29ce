-- What a pattern matches, part by part between its stars. All lists are of characters.
use Rattle.std.proofs.Common.{◌≡◌, ℕ, ◌<◌, ◌≤◌, List, [], ◌∷◌, ◌++◌, length, refl, sym, ap, subst, ◌∙◌, append_assoc, arith, inl, inr, ◌⊎◌}
use Rattle.std.specs.Prelude.{◌↔◌, Bool}
use Rattle.std.proofs.lemmas.List.{append-nil, length-append, nil_from_length}
use Rattle.ips_text.proofs.Readers.{same_cut}
use Rattle.ips_fmri.specs.Pattern.{MatchesCharacter, MatchesBy, Matches, MatchesBehindSlash}
use Rattle.ips_fmri.specs.Matching.{HasNone, AllMeet, MeetsFront, MeetsEnd, MeetsSome, MeetsFirst}
use Rattle.ips_fmri.proofs.Judges.{overlap, cancel_front}

-- what a pattern matches, whether marks are wildcards too or not
module _ (marks : Bool) where
  pub all_meet_length : (p x : List ℕ) → AllMeet marks p x → length p ≡ length x
  all_meet_length [] [] h = refl
  all_meet_length [] (d ∷ x) h = absurd h
  all_meet_length (c ∷ p) [] h = absurd h
  all_meet_length (c ∷ p) (d ∷ x) h = omega (arith, all_meet_length p x h.1)

  -- ---- a pattern without stars at the front

  abbrev FrontMatches : List ℕ → List ℕ → List ℕ → Type 0
  FrontMatches p q text = (x : List ℕ) × (y : List ℕ) × (text ≡ x ++ y) × AllMeet marks p x × MatchesBy marks q y

  front_takes : (p q text : List ℕ) → HasNone 42 p → MatchesBy marks (p ++ q) text → FrontMatches p q text
  front_takes [] q text none m = ([], text, refl, tt, m)
  front_takes (c ∷ p) q text none m =
      elim m [
        | inl w ↦ absurd (none.0 w.0)
        | inr w ↦
            let h = front_takes p q w.1.1 none.1 w.1.4 in
            (w.1.0 ∷ h.0, h.1, w.1.2 ∙ ap (λ (l : List ℕ). w.1.0 ∷ l) h.2, (w.1.3, h.3), h.4)
      ]

  front_gives : (p q x y : List ℕ) → HasNone 42 p → AllMeet marks p x → MatchesBy marks q y → MatchesBy marks (p ++ q) (x ++ y)
  front_gives [] q [] y none h m = m
  front_gives [] q (d ∷ x) y none h m = absurd h
  front_gives (c ∷ p) q [] y none h m = absurd h
  front_gives (c ∷ p) q (d ∷ x) y none h m = inr (none.0, (d, x ++ y, refl, h.0, front_gives p q x y none.1 h.1 m))

  -- a star takes what stands before
  pub star_takes : (q x y : List ℕ) → MatchesBy marks (42 ∷ q) y → MatchesBy marks (42 ∷ q) (x ++ y)
  star_takes q x y m =
      elim m [
        | inl w ↦ inl (refl, (x ++ w.1.0, w.1.1, ap (λ (l : List ℕ). x ++ l) w.1.2 ∙ sym (append_assoc x w.1.0 w.1.1), w.1.3))
        | inr w ↦ absurd (w.0 refl)
      ]

  -- a pattern without stars matches what it meets
  pub no_star : (p text : List ℕ) → HasNone 42 p → MatchesBy marks p text ↔ AllMeet marks p text
  no_star p text none = (
    λ m. let h = front_takes p [] text none (subst (λ (l : List ℕ). MatchesBy marks l text) (sym (append-nil p)) m) in subst (AllMeet marks p) (sym (h.2 ∙ ap (λ (l : List ℕ). h.0 ++ l) h.4 ∙ append-nil h.0)) h.3,
    λ h. subst (λ (l : List ℕ). MatchesBy marks l text) (append-nil p) (subst (MatchesBy marks (p ++ [])) (append-nil text) (front_gives p [] text [] none h refl)),
  )

  -- ---- a pattern up to its first star, and behind it

  pub front_star : (front behind text left : List ℕ) → HasNone 42 front → MeetsFront marks front text left → MatchesBy marks (42 ∷ behind) left ↔ MatchesBy marks (front ++ (42 ∷ behind)) text
  front_star front behind text left none f = (
    λ m. subst (MatchesBy marks (front ++ (42 ∷ behind))) (sym f.1) (front_gives front (42 ∷ behind) f.0 left none f.2 m),
    λ m.
        let h = front_takes front (42 ∷ behind) text none m in
        let len : length h.1 ≡ length left = omega (arith, ap length (sym h.2 ∙ f.1), length-append h.0 h.1, length-append f.0 left, all_meet_length front h.0 h.3, all_meet_length front f.0 f.2) in
        let cut = same_cut h.0 h.1 f.0 left (sym h.2 ∙ f.1) len in
        subst (MatchesBy marks (42 ∷ behind)) cut.1 h.4,
  )

  pub front_none : (front behind text : List ℕ) → HasNone 42 front → ((rest : List ℕ) → MeetsFront marks front text rest → ⊥) → MatchesBy marks (front ++ (42 ∷ behind)) text → ⊥
  front_none front behind text none never m = let h = front_takes front (42 ∷ behind) text none m in never h.1 (h.0, h.2, h.3)

  -- ---- behind a star, up to the next

  -- what a star and the part behind it take
  star_middle : (middle more text : List ℕ) → HasNone 42 middle → MatchesBy marks (42 ∷ (middle ++ (42 ∷ more))) text → (z : List ℕ) × MeetsSome marks middle text z × MatchesBy marks (42 ∷ more) z
  star_middle middle more text none m =
      elim m [
        | inl w ↦
            let h = front_takes middle (42 ∷ more) w.1.1 none w.1.3 in
            (h.1, (w.1.0, h.0, w.1.2 ∙ ap (λ (l : List ℕ). w.1.0 ++ l) h.2 ∙ sym (append_assoc w.1.0 h.0 h.1), h.3), h.4)
        | inr w ↦ absurd (w.0 refl)
      ]

  -- of two ends of one list the shorter one ends the longer one
  ends_end : (a x b y : List ℕ) → a ++ x ≡ b ++ y → length y ≤ length x → (w : List ℕ) × (x ≡ w ++ y)
  ends_end a x b y e le =
      elim (overlap b y a x (sym e)) [
        | inl u ↦ (u.0, cancel_front a x (u.0 ++ y) (e ∙ ap (λ (l : List ℕ). l ++ y) u.1 ∙ append_assoc a u.0 y))
        | inr u ↦ absurd (omega (arith, le, u.2, ap length e, length-append a x, length-append b y, ap length u.1, length-append b u.0))
      ]

  pub middle_star : (middle more text left : List ℕ) → HasNone 42 middle → MeetsFirst marks middle text left → MatchesBy marks (42 ∷ more) left ↔ MatchesBy marks (42 ∷ (middle ++ (42 ∷ more))) text
  middle_star middle more text left none f = (
    λ m. subst (MatchesBy marks (42 ∷ (middle ++ (42 ∷ more)))) (sym (f.some.2 ∙ append_assoc f.some.0 f.some.1 left)) (inl (refl, (f.some.0, f.some.1 ++ left, refl, front_gives middle (42 ∷ more) f.some.1 left none f.some.3 m))),
    λ m.
        let h = star_middle middle more text none m in
        let e = ends_end (f.some.0 ++ f.some.1) left (h.1.0 ++ h.1.1) h.0 (sym f.some.2 ∙ h.1.2) (f.first h.0 h.1) in
        subst (MatchesBy marks (42 ∷ more)) (sym e.1) (star_takes more e.0 h.0 h.2),
  )

  pub middle_none : (middle more text : List ℕ) → HasNone 42 middle → ((rest : List ℕ) → MeetsSome marks middle text rest → ⊥) → MatchesBy marks (42 ∷ (middle ++ (42 ∷ more))) text → ⊥
  middle_none middle more text none never m = let h = star_middle middle more text none m in never h.0 h.1

  pub last_star : (last text : List ℕ) → HasNone 42 last → MeetsEnd marks last text ↔ MatchesBy marks (42 ∷ last) text
  last_star last text none = (
    λ h. inl (refl, (h.0, h.1, h.2, (no_star last h.1 none).1 h.3)),
    λ m. elim m [ inl w ↦ (w.1.0, w.1.1, w.1.2, (no_star last w.1.1 none).0 w.1.3) | inr w ↦ absurd (w.0 refl) ],
  )

  -- ---- steps along a text

  pub front_done : (text : List ℕ) → MeetsFront marks [] text text
  front_done text = ([], refl, tt)

  front_back : (c d : ℕ) (p text rest met : List ℕ) → d ∷ text ≡ met ++ rest → AllMeet marks (c ∷ p) met → MeetsFront marks p text rest
  front_back c d p text rest [] e h = absurd h
  front_back c d p text rest (b ∷ met) e h = (met, cc, h.1)

  pub front_on : (c d : ℕ) (p text rest : List ℕ) → MatchesCharacter marks c d → MeetsFront marks p text rest ↔ MeetsFront marks (c ∷ p) (d ∷ text) rest
  front_on c d p text rest meets = (
    λ h. (d ∷ h.0, ap (λ (l : List ℕ). d ∷ l) h.1, (meets, h.2)),
    λ h. front_back c d p text rest h.0 h.1 h.2,
  )

  front_first : (c d : ℕ) (p text rest met : List ℕ) → d ∷ text ≡ met ++ rest → AllMeet marks (c ∷ p) met → MatchesCharacter marks c d
  front_first c d p text rest [] e h = absurd h
  front_first c d p text rest (b ∷ met) e h = let same : d ≡ b = cc in subst (MatchesCharacter marks c) (sym same) h.0

  -- another character comes next
  pub front_other : (c d : ℕ) (p text rest : List ℕ) → (MatchesCharacter marks c d → ⊥) → MeetsFront marks (c ∷ p) (d ∷ text) rest → ⊥
  front_other c d p text rest other h = other (front_first c d p text rest h.0 h.1 h.2)

  front_empty_of : (c : ℕ) (p rest met : List ℕ) → [] ≡ met ++ rest → AllMeet marks (c ∷ p) met → ⊥
  front_empty_of c p rest [] e h = h
  front_empty_of c p rest (b ∷ met) e h = absurd cc

  -- no character comes next
  pub front_ends : (c : ℕ) (p rest : List ℕ) → MeetsFront marks (c ∷ p) [] rest → ⊥
  front_ends c p rest h = front_empty_of c p rest h.0 h.1 h.2

  -- ---- all of a text

  pub all_from_front : (p text rest : List ℕ) → MeetsFront marks p text rest → rest ≡ [] → AllMeet marks p text
  all_from_front p text rest h none = subst (AllMeet marks p) (sym (h.1 ∙ ap (λ (l : List ℕ). h.0 ++ l) none ∙ append-nil h.0)) h.2

  pub front_from_all : (p text : List ℕ) → AllMeet marks p text → MeetsFront marks p text []
  front_from_all p text h = (text, sym (append-nil text), h)

  -- a pattern that meets all of a text leaves nothing
  pub none_left : (p text rest : List ℕ) → MeetsFront marks p text rest → AllMeet marks p text → rest ≡ []
  none_left p text rest h all = nil_from_length rest (omega (arith, ap length h.1, length-append h.0 rest, all_meet_length p h.0 h.2, all_meet_length p text all))

  -- ---- the first place

  -- no place before what was skipped meets the pattern
  pub record Skipped (pattern text left : List ℕ) : Type 0 where
    skipped : List ℕ
    parts : text ≡ skipped ++ left
    none : (before met rest : List ℕ) → text ≡ (before ++ met) ++ rest → AllMeet marks pattern met → length skipped ≤ length before

  pub skipped_none : (pattern text : List ℕ) → Skipped pattern text text
  skipped_none pattern text = record { skipped = []; parts = refl; none = λ before met rest e h. omega arith }

  skip_longer : (pattern text left skipped before met rest : List ℕ) → text ≡ skipped ++ left → text ≡ (before ++ met) ++ rest → AllMeet marks pattern met → ((rest : List ℕ) → MeetsFront marks pattern left rest → ⊥) → length skipped ≤ length before → length skipped < length before
  skip_longer pattern text left skipped before met rest e f h never le =
      elim (overlap before (met ++ rest) skipped left (sym (append_assoc before met rest) ∙ sym f ∙ e)) [
        | inl w ↦ go w.0 w.1
        | inr w ↦ absurd (omega (arith, le, ap length w.1, length-append before w.0, w.2))
      ]
    where
      here : before ≡ skipped → ⊥
      here same = never rest (met, sym (cancel_front skipped (met ++ rest) left (ap (λ (l : List ℕ). l ++ (met ++ rest)) (sym same) ∙ sym (append_assoc before met rest) ∙ sym f ∙ e)), h)

      go : (z : List ℕ) → before ≡ skipped ++ z → length skipped < length before
      go [] is = absurd (here (is ∙ append-nil skipped))
      go (d ∷ z) is = omega (arith, ap length is, length-append skipped (d ∷ z))

  pub skip_on : (pattern text left more : List ℕ) (d : ℕ) → Skipped pattern text left → ((rest : List ℕ) → MeetsFront marks pattern left rest → ⊥) → left ≡ d ∷ more → Skipped pattern text more
  skip_on pattern text left more d s never cut = record {
    skipped = s.skipped ++ d ∷ [];
    parts = s.parts ∙ ap (λ (l : List ℕ). s.skipped ++ l) cut ∙ sym (append_assoc s.skipped (d ∷ []) more);
    none = λ before met rest e h. omega (arith, length-append s.skipped (d ∷ []), skip_longer pattern text left s.skipped before met rest s.parts e h never (s.none before met rest e h));
  }

  pub skip_found : (pattern text left rest : List ℕ) → Skipped pattern text left → MeetsFront marks pattern left rest → MeetsFirst marks pattern text rest
  skip_found pattern text left rest s f = record {
    some = (s.skipped, f.0, s.parts ∙ ap (λ (l : List ℕ). s.skipped ++ l) f.1 ∙ sym (append_assoc s.skipped f.0 rest), f.2);
    first = λ other w.
        omega (
          arith,
          s.none w.0 w.1 other w.2 w.3,
          ap length s.parts,
          length-append s.skipped left,
          ap length f.1,
          length-append f.0 rest,
          ap length w.2,
          length-append (w.0 ++ w.1) other,
          length-append w.0 w.1,
          all_meet_length pattern f.0 f.2,
          all_meet_length pattern w.1 w.3,
        );
  }

  pub skip_end : (pattern text left : List ℕ) → Skipped pattern text left → ((rest : List ℕ) → MeetsFront marks pattern left rest → ⊥) → left ≡ [] → (rest : List ℕ) → MeetsSome marks pattern text rest → ⊥
  skip_end pattern text left s never none rest w =
      let le = skip_longer pattern text left s.skipped w.0 w.1 rest s.parts w.2 w.3 never (s.none w.0 w.1 rest w.2 w.3) in
      omega (arith, le, ap length s.parts, length-append s.skipped left, ap length none, ap length w.2, length-append (w.0 ++ w.1) rest, length-append w.0 w.1)

  -- ---- an end of a text

  pub end_here : (p text : List ℕ) → AllMeet marks p text → MeetsEnd marks p text
  end_here p text h = ([], text, refl, h)

  end_later : (p text before met : List ℕ) (d : ℕ) → (AllMeet marks p (d ∷ text) → ⊥) → d ∷ text ≡ before ++ met → AllMeet marks p met → MeetsEnd marks p text
  end_later p text [] met d never e h = absurd (never (subst (AllMeet marks p) (sym e) h))
  end_later p text (b ∷ before) met d never e h = (before, met, cc, h)

  pub end_on : (p text : List ℕ) (d : ℕ) → (AllMeet marks p (d ∷ text) → ⊥) → MeetsEnd marks p text ↔ MeetsEnd marks p (d ∷ text)
  end_on p text d never = (λ h. (d ∷ h.0, h.1, ap (λ (l : List ℕ). d ∷ l) h.2, h.3), λ h. end_later p text h.0 h.1 d never h.2 h.3)

  end_nothing_of : (p before met : List ℕ) → [] ≡ before ++ met → AllMeet marks p met → AllMeet marks p []
  end_nothing_of p [] met e h = subst (AllMeet marks p) (sym e) h
  end_nothing_of p (b ∷ before) met e h = absurd cc

  pub end_nothing : (p : List ℕ) → (AllMeet marks p [] → ⊥) → MeetsEnd marks p [] → ⊥
  end_nothing p never h = never (end_nothing_of p h.0 h.1 h.2 h.3)

  -- ---- what a loop keeps

  pub front_step : (wanted left p text pattern all : List ℕ) (c d : ℕ) → wanted ≡ c ∷ p → left ≡ d ∷ text → MatchesCharacter marks c d
      → ((rest : List ℕ) → MeetsFront marks wanted left rest ↔ MeetsFront marks pattern all rest) → (rest : List ℕ) → MeetsFront marks p text rest ↔ MeetsFront marks pattern all rest
  front_step wanted left p text pattern all c d w l meets so_far rest =
      let on = front_on c d p text rest meets in
      let s = so_far rest in (
        λ h. s.0 (subst (λ (x : List ℕ). MeetsFront marks x left rest) (sym w) (subst (λ (x : List ℕ). MeetsFront marks (c ∷ p) x rest) (sym l) (on.0 h))),
        λ h. on.1 (subst (λ (x : List ℕ). MeetsFront marks (c ∷ p) x rest) l (subst (λ (x : List ℕ). MeetsFront marks x left rest) w (s.1 h))),
      )

  pub front_stops : (wanted left p text pattern all : List ℕ) (c d : ℕ) → wanted ≡ c ∷ p → left ≡ d ∷ text → (MatchesCharacter marks c d → ⊥)
      → ((rest : List ℕ) → MeetsFront marks wanted left rest ↔ MeetsFront marks pattern all rest) → (rest : List ℕ) → MeetsFront marks pattern all rest → ⊥
  front_stops wanted left p text pattern all c d w l other so_far rest h =
      front_other c d p text rest other (subst (λ (x : List ℕ). MeetsFront marks (c ∷ p) x rest) l (subst (λ (x : List ℕ). MeetsFront marks x left rest) w ((so_far rest).1 h)))

  pub front_stops_end : (wanted left p pattern all : List ℕ) (c : ℕ) → wanted ≡ c ∷ p → left ≡ []
      → ((rest : List ℕ) → MeetsFront marks wanted left rest ↔ MeetsFront marks pattern all rest) → (rest : List ℕ) → MeetsFront marks pattern all rest → ⊥
  front_stops_end wanted left p pattern all c w l so_far rest h =
      front_ends c p rest (subst (λ (x : List ℕ). MeetsFront marks (c ∷ p) x rest) l (subst (λ (x : List ℕ). MeetsFront marks x left rest) w ((so_far rest).1 h)))

  pub front_whole : (wanted left pattern all : List ℕ) → wanted ≡ [] → ((rest : List ℕ) → MeetsFront marks wanted left rest ↔ MeetsFront marks pattern all rest) → MeetsFront marks pattern all left
  front_whole wanted left pattern all w so_far = (so_far left).0 (subst (λ (x : List ℕ). MeetsFront marks x left left) (sym w) (front_done left))

  pub end_step : (pattern left more all : List ℕ) (d : ℕ) → left ≡ d ∷ more → (AllMeet marks pattern left → ⊥) → MeetsEnd marks pattern left ↔ MeetsEnd marks pattern all → MeetsEnd marks pattern more ↔ MeetsEnd marks pattern all
  end_step pattern left more all d l never so_far =
      let on = end_on pattern more d (λ h. never (subst (AllMeet marks pattern) (sym l) h)) in (
        λ h. so_far.0 (subst (MeetsEnd marks pattern) (sym l) (on.0 h)),
        λ h. on.1 (subst (MeetsEnd marks pattern) l (so_far.1 h)),
      )

  pub end_stops : (pattern left all : List ℕ) → left ≡ [] → (AllMeet marks pattern left → ⊥) → MeetsEnd marks pattern left ↔ MeetsEnd marks pattern all → MeetsEnd marks pattern all → ⊥
  end_stops pattern left all l never so_far h = end_nothing pattern (λ e. never (subst (AllMeet marks pattern) (sym l) e)) (subst (MeetsEnd marks pattern) l (so_far.1 h))

  pub star_step : (pattern middle more left rest behind all : List ℕ) → HasNone 42 middle × (pattern ≡ middle ++ (42 ∷ more)) → MeetsFirst marks middle left rest
      → MatchesBy marks (42 ∷ pattern) left ↔ MatchesBy marks (42 ∷ behind) all → MatchesBy marks (42 ∷ more) rest ↔ MatchesBy marks (42 ∷ behind) all
  star_step pattern middle more left rest behind all cut first so_far =
      let on = middle_star middle more left rest cut.0 first in (
        λ h. so_far.0 (subst (λ (x : List ℕ). MatchesBy marks (42 ∷ x) left) (sym cut.1) (on.0 h)),
        λ h. on.1 (subst (λ (x : List ℕ). MatchesBy marks (42 ∷ x) left) cut.1 (so_far.1 h)),
      )

  pub star_stops : (pattern middle more left behind all : List ℕ) → HasNone 42 middle × (pattern ≡ middle ++ (42 ∷ more)) → ((rest : List ℕ) → MeetsSome marks middle left rest → ⊥)
      → MatchesBy marks (42 ∷ pattern) left ↔ MatchesBy marks (42 ∷ behind) all → MatchesBy marks (42 ∷ behind) all → ⊥
  star_stops pattern middle more left behind all cut never so_far h =
      middle_none middle more left cut.0 never (subst (λ (x : List ℕ). MatchesBy marks (42 ∷ x) left) cut.1 (so_far.1 h))

-- ---- behind a slash

slash_parts : (pattern front behind stem : List ℕ) (before rest : List ℕ) → HasNone 47 front → front ++ (47 ∷ behind) ≡ before ++ (47 ∷ rest) → Matches pattern rest → Matches pattern behind ⊎ MatchesBehindSlash pattern behind
slash_parts pattern [] behind stem [] rest none e m = let same : behind ≡ rest = cc in inl (subst (Matches pattern) (sym same) m)
slash_parts pattern [] behind stem (b ∷ before) rest none e m = let same : behind ≡ before ++ (47 ∷ rest) = cc in inr (before, rest, same, m)
slash_parts pattern (c ∷ front) behind stem [] rest none e m = let same : c ≡ 47 = cc in absurd (none.0 same)
slash_parts pattern (c ∷ front) behind stem (b ∷ before) rest none e m = let same : front ++ (47 ∷ behind) ≡ before ++ (47 ∷ rest) = cc in slash_parts pattern front behind stem before rest none.1 same m

pub slash_on : (pattern front behind stem : List ℕ) → HasNone 47 front → stem ≡ front ++ (47 ∷ behind) → (Matches pattern behind → ⊥) → MatchesBehindSlash pattern behind ↔ MatchesBehindSlash pattern stem
slash_on pattern front behind stem none cut never = (
  λ h. (front ++ (47 ∷ h.0), h.1, cut ∙ ap (λ (l : List ℕ). front ++ (47 ∷ l)) h.2 ∙ sym (append_assoc front (47 ∷ h.0) (47 ∷ h.1)), h.3),
  λ h. elim (slash_parts pattern front behind stem h.0 h.1 none (sym cut ∙ h.2) h.3) [ inl m ↦ absurd (never m) | inr later ↦ later ],
)

pub slash_here : (pattern front behind stem : List ℕ) → stem ≡ front ++ (47 ∷ behind) → Matches pattern behind → MatchesBehindSlash pattern stem
slash_here pattern front behind stem cut m = (front, behind, cut, m)

no_slash_of : (before rest stem : List ℕ) → HasNone 47 stem → stem ≡ before ++ (47 ∷ rest) → ⊥
no_slash_of [] rest [] none e = absurd cc
no_slash_of [] rest (c ∷ stem) none e = let same : c ≡ 47 = cc in none.0 same
no_slash_of (b ∷ before) rest [] none e = absurd cc
no_slash_of (b ∷ before) rest (c ∷ stem) none e = let same : stem ≡ before ++ (47 ∷ rest) = cc in no_slash_of before rest stem none.1 same

pub slash_none : (pattern stem : List ℕ) → HasNone 47 stem → MatchesBehindSlash pattern stem → ⊥
slash_none pattern stem none h = no_slash_of h.0 h.1 stem none h.2

pub slash_step : (pattern rest front behind stem : List ℕ) → HasNone 47 front × (rest ≡ front ++ (47 ∷ behind)) → (Matches pattern behind → ⊥)
    → MatchesBehindSlash pattern rest ↔ MatchesBehindSlash pattern stem → MatchesBehindSlash pattern behind ↔ MatchesBehindSlash pattern stem
slash_step pattern rest front behind stem cut never so_far =
    let on = slash_on pattern front behind rest cut.0 cut.1 never in (λ h. so_far.0 (on.0 h), λ h. on.1 (so_far.1 h))

-- Where the parts of a repository stand, and when they can be made.
use Rattle.std.proofs.Common.{◌≡◌, inl, inr, ℕ, ◌≤◌, true, false, eqb, List, length, [], ◌∷◌, ◌++◌, Some, None, refl, sym, ap, subst, ◌∙◌, append_assoc, append-nil, length-append, arith}
use Rattle.std.specs.Prelude.{codes}
use Rattle.std.specs.List.{Contains, join_with_byte}
use Rattle.std.proofs.lemmas.Bool.{eq-eqb}
use Rattle.ips_text.specs.Ancestry.{covers, parent, behind}
use Rattle.ips_text.specs.Path.{IsPath}
use Rattle.ips_text.specs.Reading.{OneOrMore}
use Rattle.ips_text.proofs.Fronts.{ascii_path, front_path, records_path}
use Rattle.ips_outside.specs.Image.{Image, IsImage}
use Rattle.ips_steps.specs.Private.{gate_name}
use Rattle.ips_fmri.specs.Name.{IsPublisher}
use Rattle.ips_records.proofs.Joined.{IsFileName, joined_path, pkg_name}
use Rattle.ips_records.proofs.FileNames.{publisher_name}
use Rattle.ips_repo.specs.Places.{publisher_place, catalog_place, mark_place}
use Rattle.ips_repo.specs.Mark.{is_repository}
use Rattle.ips_sends.proofs.Apart.{parent_joined}
use Rattle.ips_sends.proofs.Free.{component_free}
use Rattle.ips_ways.specs.Ways.{IsFree, with_dir}
use Rattle.ips_ways.proofs.Stand.{In, HaveWay, CanStart, in_of, contains_of, are_free, can_have, stand, none_stays, way_before}
use Rattle.ips_lay.specs.Records.{record_dirs}
use Rattle.ips_create.specs.Created.{layout_of, place_dirs, all_dirs}
use Rattle.ips_create.specs.Ready.{IsLayout, IsReady}

abbrev Path : Type 0
Path = List ℕ

-- ---- paths with one beginning

covers_common : (x a b : Path) → covers (x ++ a) (x ++ b) ≡ covers a b
covers_common [] a b = refl
covers_common (c ∷ x) a b = let same : eqb c c ≡ true = eq-eqb c c refl in rw same (covers_common x a b)

covers_past : (x : Path) (b : ℕ) (r : Path) → covers (x ++ b ∷ r) x ≡ false
covers_past [] b r = refl
covers_past (c ∷ x) b r = let same : eqb c c ≡ true = eq-eqb c c refl in rw same (covers_past x b r)

parent_behind : (d x : Path) → parent x ≡ None → parent (d ++ 47 ∷ x) ≡ Some d
parent_behind [] x e = ap (behind 47) e
parent_behind (a ∷ d) x e = ap (behind a) (parent_behind d x e)

-- ---- each of the directories

-- what is so of each of those of the repository
each_place : (p : Path) (P : Path → Type 0) → P (codes "publisher") → P (publisher_place p) → P (publisher_place p ++ codes "/catalog") → P (publisher_place p ++ codes "/pkg") → P (publisher_place p ++ codes "/file") → (d : Path) → In (place_dirs p) d → P d
each_place p P a b c e f d (inl is) = subst P is a
each_place p P a b c e f d (inr (inl is)) = subst P is b
each_place p P a b c e f d (inr (inr (inl is))) = subst P is c
each_place p P a b c e f d (inr (inr (inr (inl is)))) = subst P is e
each_place p P a b c e f d (inr (inr (inr (inr (inl is))))) = subst P is f
each_place p P a b c e f d (inr (inr (inr (inr (inr never))))) = absurd never

-- what is so of each
each_dir : (p : Path) (P : Path → Type 0) → P (codes "var") → P (codes "var/pkg") → ((d : Path) → In (place_dirs p) d → P d) → (d : Path) → Contains (all_dirs (layout_of p)) d → P d
each_dir p P a b rest d has = go (in_of (all_dirs (layout_of p)) d has)
  where
    go : In (all_dirs (layout_of p)) d → P d
    go (inl is) = subst P is a
    go (inr (inl is)) = subst P is b
    go (inr (inr later)) = rest d later

-- ---- its parts stand apart

catalog_joined : (p : Path) → (publisher_place p ++ codes "/catalog") ++ 47 ∷ codes "catalog.base.C" ≡ catalog_place p
catalog_joined p = append_assoc (publisher_place p) (codes "/catalog") (47 ∷ codes "catalog.base.C")

pub is_layout : (p : Path) → IsLayout (layout_of p)
unfolding gate_name
is_layout p = record {
  dir = publisher_place p ++ codes "/catalog";
  parent_is = ap parent (sym (catalog_joined p)) ∙ parent_behind (publisher_place p ++ codes "/catalog") (codes "catalog.base.C") refl;
  among = contains_of (all_dirs (layout_of p)) (publisher_place p ++ codes "/catalog") (inr (inr (inr (inr (inl refl)))));
  catalog_marked = refl;
  mark_listed = refl;
  dirs_marked = each_dir p (λ q. covers q mark_place ≡ false) refl refl (each_place p (λ q. covers q mark_place ≡ false) refl refl refl refl refl);
  mark_dirs = each_dir p (λ q. covers mark_place q ≡ false) refl refl (each_place p (λ q. covers mark_place q ≡ false) refl refl refl refl refl);
  catalog_dirs = each_dir p (λ q. covers (catalog_place p) q ≡ false) refl refl (each_place p (λ q. covers (catalog_place p) q ≡ false) refl
      (covers_past (publisher_place p) 47 (codes "catalog/catalog.base.C"))
      (covers_common (publisher_place p) (codes "/catalog/catalog.base.C") (codes "/catalog"))
      (covers_common (publisher_place p) (codes "/catalog/catalog.base.C") (codes "/pkg"))
      (covers_common (publisher_place p) (codes "/catalog/catalog.base.C") (codes "/file")));
  mark_shut = refl;
  catalog_shut = refl;
  dirs_shut = λ d has. each_place p (λ q. covers q gate_name ≡ false) refl refl refl refl refl d (in_of (place_dirs p) d has);
}

-- ---- they are paths

module _ (p : Path) (is : IsPublisher p) where
  -- names below those of the publishers and of the publisher
  below_path : (words : List Path) → OneOrMore IsFileName words → length (join_with_byte 47 (codes "publisher" ∷ p ∷ words)) ≤ 1023 → IsPath (join_with_byte 47 (codes "publisher" ∷ p ∷ words))
  below_path [] are short = absurd are
  below_path (word ∷ words) are short = joined_path (codes "publisher" ∷ p ∷ word ∷ words) (record { bytes = refl; some = omega arith; few = omega arith; no_dots = refl }, (publisher_name p is, are)) short

  pub catalogs_path : IsPath (publisher_place p ++ codes "/catalog")
  catalogs_path = let name = publisher_name p is in below_path (codes "catalog" ∷ []) (record { bytes = refl; some = omega arith; few = omega arith; no_dots = refl }) (simp length-append (omega (arith, name.few)))

  pub manifests_path : IsPath (publisher_place p ++ codes "/pkg")
  manifests_path = let name = publisher_name p is in below_path (codes "pkg" ∷ []) pkg_name (simp length-append (omega (arith, name.few)))

  pub payloads_path : IsPath (publisher_place p ++ codes "/file")
  payloads_path = let name = publisher_name p is in below_path (codes "file" ∷ []) (record { bytes = refl; some = omega arith; few = omega arith; no_dots = refl }) (simp length-append (omega (arith, name.few)))

  place_path : IsPath (publisher_place p)
  place_path = front_path (publisher_place p) (codes "catalog") catalogs_path

  pub alone_path : IsPath (publisher_place p ++ [])
  alone_path = subst IsPath (sym (append-nil (publisher_place p))) place_path

  pub catalog_path : IsPath (catalog_place p)
  catalog_path =
      let name = publisher_name p is in
      below_path (codes "catalog" ∷ codes "catalog.base.C" ∷ []) (record { bytes = refl; some = omega arith; few = omega arith; no_dots = refl }, record { bytes = refl; some = omega arith; few = omega arith; no_dots = refl })
      (simp length-append (omega (arith, name.few)))

  -- ---- each is in the root or in one of those before it

  above_place : parent (publisher_place p) ≡ Some (codes "publisher")
  above_place = parent_joined (codes "publisher") p (component_free p is.form)

  record_ways : HaveWay [] record_dirs
  record_ways = (ascii_path (codes "var") refl refl refl refl refl (omega arith) (omega arith) refl, inl refl, (records_path, inr (codes "var", refl, inl refl), tt))

  all_ways : HaveWay [] (all_dirs (layout_of p))
  all_ways = (
    record_ways.0,
    inl refl,
    (
      records_path,
      inr (codes "var", refl, inl refl),
      (
        ascii_path (codes "publisher") refl refl refl refl refl (omega arith) (omega arith) refl,
        inl refl,
        (
          place_path,
          inr (codes "publisher", above_place, inl refl),
          (
            catalogs_path,
            inr (publisher_place p, parent_behind (publisher_place p) (codes "catalog") refl, inl refl),
            (
              manifests_path,
              inr (publisher_place p, parent_behind (publisher_place p) (codes "pkg") refl, inr (inl refl)),
              (payloads_path, inr (publisher_place p, parent_behind (publisher_place p) (codes "file") refl, inr (inr (inl refl))), tt),
            ),
          ),
        ),
      ),
    ),
  )

  -- ---- they can be made

  module _ (t : Image) (formed : IsImage t) (free : IsFree t (all_dirs (layout_of p))) where
    all_start : CanStart [] (all_dirs (layout_of p)) t
    all_start = record { formed = formed; dirs = λ d has. absurd has; free = are_free t (all_dirs (layout_of p)) free; ways = all_ways }

    records_start : CanStart [] record_dirs t
    records_start =
        let all = are_free t (all_dirs (layout_of p)) free in
        record { formed = formed; dirs = λ d has. absurd has; free = (all.0, (all.1.0, tt)); ways = record_ways }

    pub is_ready : is_repository t ≡ false → t.look gate_name ≡ None → IsReady (layout_of p) t
    unfolding gate_name
    is_ready unmarked shut =
        let can = can_have [] (all_dirs (layout_of p)) t all_start in
        record {
          unmarked = unmarked;
          free = free;
          shut = shut;
          records = (can.0, (can.1.0, tt));
          places = can.1.1;
          stand = λ d has. (stand [] (all_dirs (layout_of p)) t all_start).1 d (in_of (all_dirs (layout_of p)) d has);
          older = way_before [] record_dirs t records_start;
          shut_then = none_stays (codes "var/pkg") (with_dir (codes "var") t) gate_name refl (none_stays (codes "var") t gate_name refl shut);
        }

-- Files of one item a line, as the kinds of records.
use Rattle.std.proofs.Common.{◌≡◌, ◌≤◌, ℕ, false, List, [], ◌∷◌, ◌++◌, length, map, Option, Some, None, refl, sym, ◌∙◌, ap, subst}
use Rattle.std.specs.List.{AllByRecursion}
use Rattle.ips_fmri.specs.Fmri.{fmri_text}
use Rattle.ips_fmri.specs.Name.{IsStem}
use Rattle.ips_fmri.specs.declared.fmri.Fmri.{Fmri}
use Rattle.ips_records.specs.Lines.{ended, lines_in, BeginsFile, StopsFile, IsFirstBadLine}
use Rattle.ips_records.specs.Listed.{Chain, IsListed}
use Rattle.ips_records.specs.Form.{IsNamed, IsRequestLine}
use Rattle.ips_mediate.specs.declared.set.SetMediator.{SetMediator}
use Rattle.ips_state.specs.Form.{IsSetting}
use Rattle.ips_state.specs.Text.{name_lines, mediator_line}
use Rattle.ips_state.specs.Lawful.{AreStems, AreVersioned, AreMediators}
use Rattle.ips_load.specs.Fault.{IsStemsFile, IsNamesFile, IsMediatorsFile, IsHistoryFile, IsBadText, IsBadLine, IsFileFault, IsUnread, TellsLine}
use Rattle.ips_load.specs.declared.fault.StateFault.{StateFault}
use Rattle.ips_load.specs.declared.fault.StateFault.TheVariants.{NoImage, BadImage, TooLarge, FolderFault}
use Rattle.ips_load.specs.Held.{record_limit, Stands}
use Rattle.ips_outside.specs.Image.{Image}
use Rattle.ips_files.specs.Files.{file_at}
use Rattle.ips_state.proofs.Ordered.{IsBefore, ascends, chains}

-- what goes wrong as one kind goes wrong as another of the same files
pub bad_like : (F G : List (List ℕ) → Type 0) → ((lines : List (List ℕ)) → F lines → G lines) → ((lines : List (List ℕ)) → G lines → F lines) → (text : List ℕ) (n : ℕ) → IsBadText F text n → IsBadText G text n
bad_like F G to from text n bad = record {
  front = bad.front;
  rest = bad.rest;
  cut = bad.cut;
  place = bad.place;
  begins = (bad.begins.0, to (bad.front ++ bad.begins.0) bad.begins.1);
  stops = go bad.rest bad.stops;
}
  where
    go : (rest : List (List ℕ)) → StopsFile F bad.front rest → StopsFile G bad.front rest
    go [] stop = λ g. stop (from bad.front g)
    go (line ∷ rest) stop = λ g. stop (g.0, from ((bad.front ++ line ∷ []) ++ g.0) g.1)

-- what is at fault in one way is in another
bad_line_like : (Bad Other : List ℕ → ℕ → Type 0) → ((text : List ℕ) (n : ℕ) → Bad text n → Other text n) → (file : Option (List ℕ)) (line : ℕ) → IsBadLine Bad file line → IsBadLine Other file line
bad_line_like Bad Other to None line h = h
bad_line_like Bad Other to (Some text) line h = (h.0, to text line h.1)

pub fault_like : (Bad Other : List ℕ → ℕ → Type 0) → ((text : List ℕ) (n : ℕ) → Bad text n → Other text n) → (t : Image) (path : List ℕ) (f : StateFault) → IsFileFault Bad t path f → IsFileFault Other t path f
fault_like Bad Other to t path NoImage h = h
fault_like Bad Other to t path (BadImage file line) h = (h.0, bad_line_like Bad Other to (file_at t path) line h.1)
fault_like Bad Other to t path (TooLarge which count) h = h
fault_like Bad Other to t path FolderFault h = h

-- a file that isn't read is at fault in any way
no_file : (Bad : List ℕ → ℕ → Type 0) (file : Option (List ℕ)) (line : ℕ) → line ≡ 0 → file ≡ None → IsBadLine Bad file line
no_file Bad None line zero none = zero
no_file Bad (Some text) line zero none = absurd cc

pub unread_fault : (Bad : List ℕ → ℕ → Type 0) (t : Image) (path : List ℕ) (f : StateFault) → IsUnread t path f → IsFileFault Bad t path f
unread_fault Bad t path NoImage h = h
unread_fault Bad t path (BadImage file line) h = (h.0, no_file Bad (file_at t path) line h.1 h.2)
unread_fault Bad t path (TooLarge which count) h = h
unread_fault Bad t path FolderFault h = tt

-- a line that goes wrong in a file that stands
line_fault : (Bad : List ℕ → ℕ → Type 0) (file : Option (List ℕ)) (text : List ℕ) (line : ℕ) → file ≡ Some text → length text ≤ record_limit → Bad text line → IsBadLine Bad file line
line_fault Bad None text line is within bad = absurd cc
line_fault Bad (Some other) text line is within bad = let same : other ≡ text = cc in (rw same within, rw same bad)

pub told_fault : (Bad : List ℕ → ℕ → Type 0) (t : Image) (path text : List ℕ) (line : ℕ) → Stands t path text → Bad text line → (f : StateFault) → TellsLine path line f → IsFileFault Bad t path f
told_fault Bad t path text line stands bad NoImage h = h
told_fault Bad t path text line stands bad (BadImage file n) h = (h.0, line_fault Bad (file_at t path) text n stands.file stands.within (subst (Bad text) (sym h.1) bad))
told_fault Bad t path text line stands bad (TooLarge which count) h = absurd h
told_fault Bad t path text line stands bad FolderFault h = absurd h

pub same_list : (xs : List (List ℕ)) → map (λ (x : List ℕ). x) xs ≡ xs
same_list [] = refl
same_list (x ∷ xs) = ap (λ (l : List (List ℕ)). x ∷ l) (same_list xs)

-- ---- stems

abbrev pub ListsStems : List (List ℕ) → Type 0
ListsStems lines = IsListed (λ (s : List ℕ). s) (IsStem false) IsBefore lines

pub stems_from : (stems : List (List ℕ)) → AllByRecursion (IsStem false) stems → Chain IsBefore stems → AreStems stems
stems_from stems each chain = record { each = each; order = rw (same_list stems) at (ascends (λ (s : List ℕ). s) stems chain) }

stems_to : (lines : List (List ℕ)) → ListsStems lines → IsStemsFile lines
stems_to lines h = (h.0, stems_from h.0 h.1 h.2, h.3 ∙ ap (map ended) (same_list h.0))

stems_of : (lines : List (List ℕ)) → IsStemsFile lines → ListsStems lines
stems_of lines h = (h.0, h.1.each, chains (λ (s : List ℕ). s) h.0 (rw (same_list h.0) h.1.order), h.2 ∙ ap (map ended) (sym (same_list h.0)))

pub bad_stems : (text : List ℕ) (n : ℕ) → IsBadText ListsStems text n → IsBadText IsStemsFile text n
bad_stems text n bad = bad_like ListsStems IsStemsFile stems_to stems_of text n bad

-- ---- stems at a version

abbrev pub ListsNames : List (List ℕ) → Type 0
ListsNames lines = IsListed fmri_text IsNamed (λ (a b : Fmri). IsBefore a.stem b.stem) lines

pub names_from : (names : List Fmri) → AllByRecursion IsNamed names → Chain (λ (a b : Fmri). IsBefore a.stem b.stem) names → AreVersioned names
names_from names each chain = record { each = each; order = ascends (λ (f : Fmri). f.stem) names chain }

names_to : (lines : List (List ℕ)) → ListsNames lines → IsNamesFile lines
names_to lines h = (h.0, names_from h.0 h.1 h.2, h.3)

names_of : (lines : List (List ℕ)) → IsNamesFile lines → ListsNames lines
names_of lines h = (h.0, h.1.each, chains (λ (f : Fmri). f.stem) h.0 h.1.order, h.2)

pub bad_names : (text : List ℕ) (n : ℕ) → IsBadText ListsNames text n → IsBadText IsNamesFile text n
bad_names text n bad = bad_like ListsNames IsNamesFile names_to names_of text n bad

-- ---- mediators

abbrev pub ListsMediators : List (List ℕ) → Type 0
ListsMediators lines = IsListed mediator_line IsSetting (λ (a b : SetMediator). IsBefore a.name b.name) lines

pub mediators_from : (mediators : List SetMediator) → AllByRecursion IsSetting mediators → Chain (λ (a b : SetMediator). IsBefore a.name b.name) mediators → AreMediators mediators
mediators_from mediators each chain = record { each = each; order = ascends (λ (m : SetMediator). m.name) mediators chain }

mediators_to : (lines : List (List ℕ)) → ListsMediators lines → IsMediatorsFile lines
mediators_to lines h = (h.0, mediators_from h.0 h.1 h.2, h.3)

mediators_of : (lines : List (List ℕ)) → IsMediatorsFile lines → ListsMediators lines
mediators_of lines h = (h.0, h.1.each, chains (λ (m : SetMediator). m.name) h.0 h.1.order, h.2)

pub bad_mediators : (text : List ℕ) (n : ℕ) → IsBadText ListsMediators text n → IsBadText IsMediatorsFile text n
bad_mediators text n bad = bad_like ListsMediators IsMediatorsFile mediators_to mediators_of text n bad

-- ---- requests

abbrev pub ListsRequests : List (List ℕ) → Type 0
ListsRequests lines = IsListed (λ (s : List ℕ). s) IsRequestLine (λ (a b : List ℕ). Unit {0}) lines

chain_any : (lines : List (List ℕ)) → Chain (λ (a b : List ℕ). Unit {0}) lines
chain_any [] = tt
chain_any (x ∷ []) = tt
chain_any (x ∷ y ∷ lines) = (tt, chain_any (y ∷ lines))

history_to : (lines : List (List ℕ)) → ListsRequests lines → IsHistoryFile lines
history_to lines h = (h.0, h.1, h.3 ∙ ap (map ended) (same_list h.0))

history_of : (lines : List (List ℕ)) → IsHistoryFile lines → ListsRequests lines
history_of lines h = (h.0, h.1, chain_any h.0, h.2 ∙ ap (map ended) (sym (same_list h.0)))

pub bad_history : (text : List ℕ) (n : ℕ) → IsBadText ListsRequests text n → IsBadText IsHistoryFile text n
bad_history text n bad = bad_like ListsRequests IsHistoryFile history_to history_of text n bad

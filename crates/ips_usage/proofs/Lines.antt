-- Where a whole line goes wrong.
use Rattle.std.proofs.Common.{◌≡◌, ℕ, suc, Bool, true, false, List, [], ◌∷◌, ◌++◌, length, Option, Some, None, Result, Ok, Err, refl, sym, ◌∙◌, ap, subst, arith, append_assoc}
use Rattle.std.specs.Prelude.{if◌then◌else◌, codes}
use Rattle.std.proofs.lemmas.List.{append-nil, length-append}
use Rattle.ips_text.specs.declared.refusal.Stop.{Stop}
use Rattle.ips_text.specs.Reading.{◌>>=◌}
use Rattle.ips_syntax.specs.declared.table.Why.{Why}
use Rattle.ips_syntax.specs.declared.table.Why.TheVariants.{Missing, Unknown, Extra}
use Rattle.ips_syntax.specs.declared.table.Verb.{Verb}
use Rattle.ips_syntax.specs.declared.table.Verb.TheVariants as verb
use Rattle.ips_syntax.specs.declared.values.Given.{Given}
use Rattle.ips_syntax.specs.declared.lines.Line.{Line}
use Rattle.ips_syntax.specs.declared.lines.Line.TheVariants.{Help, HelpOf, Version, Does}
use Rattle.ips_syntax.specs.Table.{all_verbs}
use Rattle.ips_syntax.specs.Values.{same}
use Rattle.ips_syntax.specs.Reading.{stop, verb_in, alone, help_of, help_at, command_at, repository_at, image_at, line_of_words}
use Rattle.ips_words.specs.declared.what.Usage.{Usage}
use Rattle.ips_words.specs.Command.{IsUsage}
use Rattle.ips_usage.specs.FirstWrong.{StopsLine, IsFirstWrong}
use Rattle.ips_usage.proofs.Fault.{Words, Reads, Completes, IsFault, IfFault, StopsAt, Judged, refused_at, lacking_at, goes_on, made_judged}
use Rattle.ips_usage.proofs.Options.{rest}
use Rattle.ips_usage.proofs.Completing.{complete}
use Rattle.ips_usage.proofs.Commands.{rest_judged}

-- what is read of a line
abbrev Said : Type 0
Said = Line × List Given

alone_judged : (line : Line) (words : Words) → Judged (alone line) words
alone_judged line [] = tt
alone_judged line (word ∷ words) = refused_at (alone line) word words Extra (λ h. cc) (λ us. refl) ([], (line, []), refl)

help_judged : (v : Verb) (words : Words) → Judged (help_of v) words
help_judged v [] = lacking_at (help_of v) refl (codes "--help" ∷ [], (HelpOf v, []), refl)
help_judged v (word ∷ words) = go (same word (codes "--help")) refl
  where
    go : (b : Bool) → same word (codes "--help") ≡ b → Judged (help_of v) (word ∷ words)
    go true e = goes_on (help_of v) (alone (HelpOf v)) word words (λ us. ap (λ (b : Bool). if b then alone (HelpOf v) us else Err (stop Unknown (suc (length us)))) e) (alone_judged (HelpOf v) words)
    go false e =
        refused_at (help_of v) word words Unknown (λ h. cc) (λ us. ap (λ (b : Bool). if b then alone (HelpOf v) us else Err (stop Unknown (suc (length us)))) e)
        (codes "--help" ∷ [], (HelpOf v, []), refl)

-- a command with what stands behind it
abbrev does : Verb → Reads Said
does v words = rest v [] words >>= λ given. Ok (Does v, given)

-- what stands behind the repository
abbrev behind_repository : Reads Said
behind_repository [] = Err (stop Missing 0)
behind_repository (word ∷ words) = command_at (suc (length words)) (verb_in all_verbs word) words

-- what stands behind the image
abbrev behind_image : Reads Said
behind_image [] = Err (stop Missing 0)
behind_image (word ∷ words) = if same word (codes "-s") then repository_at words else Err (stop Unknown (suc (length words)))

repository_is : (repository : List ℕ) (us : Words) → repository_at (repository ∷ us) ≡ behind_repository us
repository_is repository [] = refl
repository_is repository (word ∷ us) = refl

image_is : (image : List ℕ) (us : Words) → image_at (image ∷ us) ≡ behind_image us
image_is image [] = refl
image_is image (word ∷ us) = refl

-- `fix` is a line
command_done : Completes behind_repository
command_done =
    let done = complete verb.Fix [] (λ e. refl) in
    (codes "fix" ∷ done.0, (Does verb.Fix, done.1), ap (λ (r : Result (List Given) (Stop Why)). r >>= λ given. Ok (Does verb.Fix, given)) done.2)

repository_done : Completes repository_at
repository_done = (codes "r" ∷ command_done.0, command_done.1, repository_is (codes "r") command_done.0 ∙ command_done.2)

image_done : Completes behind_image
image_done = (codes "-s" ∷ repository_done.0, repository_done.1, repository_done.2)

line_done : Completes image_at
line_done = (codes "i" ∷ image_done.0, image_done.1, image_is (codes "i") image_done.0 ∙ image_done.2)

command_judged : (words : Words) → Judged behind_repository words
command_judged [] = lacking_at behind_repository refl command_done
command_judged (word ∷ words) = go (verb_in all_verbs word) refl
  where
    go : (o : Option Verb) → verb_in all_verbs word ≡ o → Judged behind_repository (word ∷ words)
    go None e = refused_at behind_repository word words Unknown (λ h. cc) (λ us. ap (λ (o : Option Verb). command_at (suc (length us)) o us) e) command_done
    go (Some v) e =
        goes_on behind_repository (does v) word words (λ us. ap (λ (o : Option Verb). command_at (suc (length us)) o us) e)
        (made_judged (rest v []) (λ given. (Does v, given)) words (rest_judged v [] words (λ e. refl)))

repository_judged : (words : Words) → Judged repository_at words
repository_judged [] = lacking_at repository_at refl repository_done
repository_judged (repository ∷ words) = goes_on repository_at behind_repository repository words (repository_is repository) (command_judged words)

behind_image_judged : (words : Words) → Judged behind_image words
behind_image_judged [] = lacking_at behind_image refl image_done
behind_image_judged (word ∷ words) = go (same word (codes "-s")) refl
  where
    go : (b : Bool) → same word (codes "-s") ≡ b → Judged behind_image (word ∷ words)
    go true e = goes_on behind_image repository_at word words (λ us. ap (λ (b : Bool). if b then repository_at us else Err (stop Unknown (suc (length us)))) e) (repository_judged words)
    go false e = refused_at behind_image word words Unknown (λ h. cc) (λ us. ap (λ (b : Bool). if b then repository_at us else Err (stop Unknown (suc (length us)))) e) image_done

image_judged : (words : Words) → Judged image_at words
image_judged [] = lacking_at image_at refl line_done
image_judged (image ∷ words) = goes_on image_at behind_image image words (image_is image) (behind_image_judged words)

-- a line by what its first word is
abbrev by_word : Bool → Bool → Bool → Option Verb → Words → Result Said (Stop Why)
by_word image help version found words =
    if image then image_at words else (if help then alone Help words else (if version then alone Version words else help_at (suc (length words)) found words))

help_line : Completes line_of_words
help_line = (codes "--help" ∷ [], (Help, []), refl)

-- a line is at fault at the first word that nothing continues
pub line_judged : (words : Words) → Judged line_of_words words
line_judged [] = lacking_at line_of_words refl help_line
line_judged (word ∷ words) = go (same word (codes "-R")) (same word (codes "--help")) (same word (codes "--version")) (verb_in all_verbs word) refl refl refl refl
  where
    is : (r h v : Bool) (o : Option Verb) → same word (codes "-R") ≡ r → same word (codes "--help") ≡ h → same word (codes "--version") ≡ v → verb_in all_verbs word ≡ o
        → (us : Words) → line_of_words (word ∷ us) ≡ by_word r h v o us
    is r h v o er eh ev eo us =
        ap (λ (b : Bool). by_word b (same word (codes "--help")) (same word (codes "--version")) (verb_in all_verbs word) us) er
        ∙ ap (λ (b : Bool). by_word r b (same word (codes "--version")) (verb_in all_verbs word) us) eh
        ∙ ap (λ (b : Bool). by_word r h b (verb_in all_verbs word) us) ev
        ∙ ap (λ (o : Option Verb). by_word r h v o us) eo

    go : (r h v : Bool) (o : Option Verb) → same word (codes "-R") ≡ r → same word (codes "--help") ≡ h → same word (codes "--version") ≡ v → verb_in all_verbs word ≡ o → Judged line_of_words (word ∷ words)
    go true h v o er eh ev eo = goes_on line_of_words image_at word words (is true h v o er eh ev eo) (image_judged words)
    go false true v o er eh ev eo = goes_on line_of_words (alone Help) word words (is false true v o er eh ev eo) (alone_judged Help words)
    go false false true o er eh ev eo = goes_on line_of_words (alone Version) word words (is false false true o er eh ev eo) (alone_judged Version words)
    go false false false None er eh ev eo = refused_at line_of_words word words Unknown (λ h. cc) (is false false false None er eh ev eo) help_line
    go false false false (Some x) er eh ev eo = goes_on line_of_words (help_of x) word words (is false false false (Some x) er eh ev eo) (help_judged x words)

-- the fault of a line, in the words of the law
pub first_wrong : (words : Words) (usage : Usage) → IsUsage words usage → IsFirstWrong words usage
first_wrong words usage u = of_fault (subst (λ (r : Result Said (Stop Why)). IfFault r (IsFault line_of_words words)) u.read (line_judged words))
  where
    why : usage.why ≡ u.stop.kind
    why = ap (λ (x : Usage). x.why) u.is

    go : (h : IsFault line_of_words words u.stop) (rest : Words) → words ≡ h.front ++ rest → StopsAt line_of_words h.front rest u.stop.kind → StopsLine h.front rest usage
    go h [] cut stops = (
      λ read e. let clash : Err u.stop ≡ Ok read = sym u.read ∙ ap line_of_words (cut ∙ append-nil h.front) ∙ e in absurd cc,
      why ∙ stops,
    )
    go h (word ∷ behind) cut stops = (
      λ begins. stops.0 begins.0 begins.1 (ap line_of_words (sym (append_assoc h.front (word ∷ []) begins.0)) ∙ begins.2),
      λ e. stops.1 (sym why ∙ e),
    )

    of_fault : IsFault line_of_words words u.stop → IsFirstWrong words usage
    of_fault h = record {
      front = h.front;
      rest = h.rest;
      cut = h.cut;
      place = ap (λ (x : Usage). x.place) u.is ∙ omega (arith, ap length h.cut, length-append h.front h.rest, h.left);
      begins = h.begins;
      stops = go h h.rest h.cut h.stops;
    }

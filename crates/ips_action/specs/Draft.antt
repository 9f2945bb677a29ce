-- A line whose content isn't known yet: any word may stand for the payload of a file or a license, or none.
use Rattle.std.specs.Prelude.{◌≡◌, ℕ, Bool, ◌||◌, cond, ◌⊎◌, List, Option, Some, None, codes}
use Rattle.ips_digest.specs.declared.name.PayloadName.{PayloadName}
use Rattle.ips_line.specs.declared.fault.WordFault.TheVariants as words
use Rattle.ips_line.specs.Line.{Said, Says, IsFault}
use Rattle.ips_action.specs.declared.fault.ActionFault.{ActionFault}
use Rattle.ips_action.specs.declared.fault.ActionFault.TheVariants.{UnknownAction, BadWord, OpenQuote, MissingKey, BadValue}
use Rattle.ips_action.specs.Attrs.{is_same}
use Rattle.ips_action.specs.Action.{Fields}
use Rattle.ips_action.specs.Meaning.{IsSaid, FaultOf, word_of}

-- what stands for a content that isn't known: 40 zeros
abbrev pub no_content : List ℕ
no_content = codes "0000000000000000000000000000000000000000"

-- the name is that of an action that has a content: a file or a license
abbrev pub names_content : List ℕ → Bool
names_content name = is_same name (codes "file") || is_same name (codes "license")

-- the words with another payload word
abbrev pub with_word : List ℕ → Said → Said
with_word word said = record { name = said.name; payload = Some (record { text = word; place = 0 }); pairs = said.pairs }

-- the words, where the payload word of an action that has a content is 40 zeros
abbrev pub drafted : Said → Said
drafted said = cond (names_content said.name.text) (with_word no_content said) said

-- the word that stands for the content of an action that has one
abbrev pub draft_word : Said → Option (List ℕ)
draft_word said = cond (names_content said.name.text) (word_of said.payload) None

-- the line is a way to write the action with 40 zeros for its content, and this word stands there
abbrev pub MeansDraft : List ℕ → Fields → Option (List ℕ) → Type 0
MeansDraft text a word = (said : Said) × Says said text × IsSaid (drafted said) a × (word ≡ draft_word said)

-- the text has words, and this is their first fault with 40 zeros there
abbrev pub HasDraftFault : List ℕ → ActionFault → Type 0
HasDraftFault text fault = (said : Said) × Says said text × FaultOf (drafted said) fault

-- the first fault of such a line, at the place where it stands in the text
abbrev pub IsFirstDraftFault : List ℕ → ActionFault → Type 0
IsFirstDraftFault text (UnknownAction place) = HasDraftFault text (UnknownAction place)
IsFirstDraftFault text (BadWord place) = IsFault text (words.BadWord place) ⊎ HasDraftFault text (BadWord place)
IsFirstDraftFault text (OpenQuote place) = IsFault text (words.OpenQuote place)
IsFirstDraftFault text (MissingKey name) = HasDraftFault text (MissingKey name)
IsFirstDraftFault text (BadValue name) = HasDraftFault text (BadValue name)

-- the action with this payload
abbrev pub with_payload : PayloadName → Fields → Fields
with_payload payload a = record { kind = a.kind; payload = Some payload; attrs = a.attrs }

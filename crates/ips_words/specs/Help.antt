-- The help: a page of the table, and the lines of one command.
use Rattle.std.specs.Prelude.{ℕ, ◌==◌, ◌&&◌, Bool, if◌then◌else◌, List, [], ◌++◌, length, codes, Option, Some, None}
use Rattle.std.specs.List.{flat_map, list_any}
use Rattle.ips_syntax.specs.declared.table.Verb.{Verb}
use Rattle.ips_syntax.specs.declared.table.Verb.TheVariants as verb
use Rattle.ips_syntax.specs.declared.table.Role.{Role}
use Rattle.ips_syntax.specs.declared.table.Role.TheVariants as role
use Rattle.ips_syntax.specs.declared.table.Form.{Form}
use Rattle.ips_syntax.specs.declared.table.Form.TheVariants as form
use Rattle.ips_syntax.specs.declared.table.Operands.{Operands}
use Rattle.ips_syntax.specs.Table.{all_verbs, verb_name, options_of, operands_of, required_of, role_name, value_form, repeats, sets}

-- How the help shows a word of a form, behind a blank.
abbrev pub form_text : Form → List ℕ
form_text form.Nothing = []
form_text form.Any = codes " <word>"
form_text form.Filled = codes " <name>"
form_text form.Implementation = codes " <text>"
form_text form.Publisher = codes " <publisher>"
form_text form.Stem = codes " <stem>"
form_text form.Pattern = codes " <pattern>"
form_text form.Freeze = codes " <stem>@<version>"
form_text form.Version = codes " <version>"
form_text form.Limit = codes " <number>"
form_text form.Count = codes " <number>"
form_text form.Variant = codes " variant.<name>=<value>"
form_text form.Switch = codes " facet.<name>=true|false"
form_text form.Setting = codes " facet.<name>=true|false|none"

-- The option is the only one that is required.
abbrev pub is_required : Verb → Role → Bool
is_required v r = length (required_of v) == 1 && list_any (λ q. sets q == sets r) (required_of v)

-- An option with its value.
abbrev pub option_body : Role → List ℕ
option_body r = role_name r ++ form_text (value_form r)

-- What stands before an option that needn't stand: a bracket; `--non-sticky` excludes `--sticky`, and both share one pair of brackets.
abbrev pub opening : Role → List ℕ
opening role.NonSticky = codes " | "
opening r = codes " ["

-- What stands behind it: the bracket's end, with dots where the option may stand again.
abbrev pub closing : Role → List ℕ
closing role.Sticky = []
closing r = if repeats r then codes "].." else codes "]"

-- How the help shows an option: in brackets unless it is required.
abbrev pub option_text : Verb → Role → List ℕ
option_text v r =
    if is_required v r then codes " " ++ option_body r
    else opening r ++ option_body r ++ closing r

-- How the help shows operands.
abbrev pub operands_text : Operands → List ℕ
operands_text o =
    if o.most == 0 then []
    else (if o.most == 1 then form_text o.form
    else (if o.least == 0 then codes " [" ++ form_text o.form ++ codes " ]..."
    else form_text o.form ++ codes " ..."))

-- What a command does.
abbrev pub deed : Verb → List ℕ
deed verb.ImageCreate = codes "make an image"
deed verb.Install = codes "install packages, or newer versions of them"
deed verb.Update = codes "update packages, all of them where none is named"
deed verb.Uninstall = codes "remove packages"
deed verb.Fix = codes "finish a change that was stopped; where none was, repair what verify finds"
deed verb.Verify = codes "tell what differs from the packages"
deed verb.List = codes "show the installed packages"
deed verb.Contents = codes "show the paths that an installed package delivers; -m shows its manifest"
deed verb.History = codes "show which commands changed the image"
deed verb.Search = codes "show where a word stands in the installed packages; * and ? are wildcards"
deed verb.RebuildIndex = codes "make the index that search reads"
deed verb.ChangeFacet = codes "set facets, or take their settings away"
deed verb.ChangeVariant = codes "set a variant"
deed verb.SetMediator = codes "choose among mediated links by -V, by -I or by both: one has to stand"
deed verb.UnsetMediator = codes "leave the choice among mediated links to the packages"
deed verb.Avoid = codes "keep group dependencies from installing these packages"
deed verb.Unavoid = codes "take packages from the avoid list"
deed verb.Freeze = codes "keep packages at versions"
deed verb.Unfreeze = codes "let frozen packages go"
deed verb.SetPublisher = codes "put a publisher into the list, or change its place and stickiness; packages come from the image's own alone"
deed verb.UnsetPublisher = codes "take a publisher from the list"
deed verb.UpdateFormat = codes "move the image's records to the present format"
deed verb.Gen = codes "try the program on a repository of so many packages, in memory"

-- The lines of a command.
abbrev pub command_text : Verb → List ℕ
command_text v = codes "  " ++ verb_name v ++ flat_map (option_text v) (options_of v) ++ operands_text (operands_of v) ++ codes "\n      " ++ deed v ++ codes "\n"

-- How a command is given.
unfoldable pub head_text : List ℕ
head_text = codes "usage: pkg -R <image> -s <repository> <command>\n       pkg --help | --version | <command> --help\n"

-- The numbers that the program ends with.
unfoldable pub foot_text : List ℕ
foot_text = codes "exit status: 0 done, 1 refused, failed or damaged, 2 bad words, 4 nothing to do, 6 license needed, 7 another pkg at work, 99 out of memory\n"

-- The lines of `mogrify`, which stands alone, without an image and a repository.
unfoldable pub mogrify_text : List ℕ
mogrify_text = codes "  mogrify -d <folder> <rules> <manifest>\n      print what the rules make of the manifest, both files of the folder; these words stand alone, without -R and -s\n"

-- The lines of `send`, which stands alone, without an image.
unfoldable pub send_text : List ℕ
send_text = codes "  send -s <repository> -d <folder> create <publisher>\n      make a repository of the publisher, without packages\n  send -s <repository> -d <folder> publish <name> <manifest>\n      publish the version that the name tells; its manifest and contents are in the folder; these words stand in just this order, without -R\n"

-- The lines of one command, or of all.
abbrev pub body_text : Option Verb → List ℕ
body_text None = flat_map command_text all_verbs ++ mogrify_text ++ send_text
body_text (Some v) = command_text v

-- The help of one command, or of all.
abbrev pub help_text : Option Verb → List ℕ
help_text command = head_text ++ body_text command ++ foot_text

-- The version of the program, as `--version` shows it.
abbrev pub version_text : List ℕ
version_text = codes "pkg 0.1"

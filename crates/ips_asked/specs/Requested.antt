-- What a command asks of the packages.
use Rattle.std.specs.Prelude.{◌≡◌, List, []}
use Rattle.ips_fmri.specs.declared.pattern.Pattern.{Pattern}
use Rattle.ips_request.specs.declared.kind.Kind.{Kind}
use Rattle.ips_request.specs.declared.kind.Kind.TheVariants as kind
use Rattle.ips_request.specs.declared.request.Request.{Request}
use Rattle.ips_request.specs.Request.{kind_of, patterns_of, rejects_of}
use Rattle.ips_words.specs.declared.what.What.{What}
use Rattle.ips_words.specs.declared.what.What.TheVariants.{Install, Update, Uninstall}

-- What is to be done with the packages: to install, update or uninstall them where the command says so, and else to keep them.
abbrev pub kind_asked : What → Kind
kind_asked (Install patterns reject accept limit) = kind.Install
kind_asked (Update patterns reject accept limit) = kind.Update
kind_asked (Uninstall patterns limit) = kind.Uninstall
kind_asked w = kind.Keep

-- The patterns of the command, where it is about packages.
abbrev pub patterns_asked : What → List Pattern
patterns_asked (Install patterns reject accept limit) = patterns.items
patterns_asked (Update patterns reject accept limit) = patterns.items
patterns_asked (Uninstall patterns limit) = patterns.items
patterns_asked w = []

-- The patterns of what the command rejects.
abbrev pub rejects_asked : What → List Pattern
rejects_asked (Install patterns reject accept limit) = reject.items
rejects_asked (Update patterns reject accept limit) = reject.items
rejects_asked w = []

-- The request is what the command asks of the packages.
pub record IsRequestOf (w : What) (q : Request) : Type 0 where
  pub kind_is : kind_of q ≡ kind_asked w
  pub patterns : patterns_of q ≡ patterns_asked w
  pub rejects : rejects_of q ≡ rejects_asked w

-- What reading a manifest says of its version.
use Rattle.std.proofs.Common.{◌≡◌, ℕ, ◌+◌, ◌≤◌, Bool, true, false, cond, List, Option, Some, None, is_some, option_map, refl, sym, ap, subst, ◌∙◌, arith}
use Rattle.std.specs.Option.{MatchOption, option_and_then}
use Rattle.ips_fmri.specs.Version.{Parts}
use Rattle.ips_filter.specs.Settings.{Set}
use Rattle.ips_manifest.specs.declared.line.Line.{Line}
use Rattle.ips_manifest.specs.Manifest.{IsManifestOf}
use Rattle.ips_depend.specs.Dependency.{Dependency}
use Rattle.ips_depend.specs.Asking.{LinesAsk}
use Rattle.ips_depend.proofs.Lines.{lines_once}
use Rattle.ips_state.specs.State.{Installed}
use Rattle.ips_repo.specs.Manifest.{manifest_limit}
use Rattle.ips_request.specs.declared.fault.ProblemFault.{ProblemFault}
use Rattle.ips_request.specs.declared.fault.ProblemFault.TheVariants as fault
use Rattle.ips_request.specs.declared.read.Read.{Read}
use Rattle.ips_request.specs.Case.{Case, ManifestReading, IsReading, at_version, facts_of, facts_in, installed_at, installed_version, is_same_version, own, said_of}
use Rattle.ips_request.specs.Candidates.{greatest, is_version, may_come, tell_obsolete}
use Rattle.ips_request.specs.Manifests.{FaultOf, IsFetched, IsFetchFault, IsManifestFileFault, IsOwnFault, IsThere, manifest_bytes_read}
use Rattle.ips_problem.specs.Gathered.{Got, GotFault, IsJudgedRead, IsReadBehind}
use Rattle.ips_request.proofs.Lookups.{there_mapped}

-- ---- what a manifest says

lines_read : (before now : ℕ) (lines : List Line) (bytes : List ℕ) (o : Option (List Line)) → MatchOption o ((lines : List Line) → IsManifestOf bytes lines → ⊥) (IsManifestOf bytes) → IsFetched before now lines bytes → o ≡ Some lines
lines_read before now lines bytes None m f = absurd (m lines f.manifest)
lines_read before now lines bytes (Some ls) m f = ap (λ ls. Some ls) (f.only ls m)

asked_read : (settings : Set) (lines : List Line) (ds : List Dependency) (o : Option (List Dependency)) → MatchOption o ((ds : List Dependency) → LinesAsk settings lines ds → ⊥) (LinesAsk settings lines) → LinesAsk settings lines ds → o ≡ Some ds
asked_read settings lines ds None m a = absurd (m ds a)
asked_read settings lines ds (Some es) m a = ap (λ es. Some es) (lines_once settings lines es ds m a)

facts_read : (settings : Set) (r : ManifestReading) (lines : List Line) (ds : List Dependency) → IsReading settings r → LinesAsk settings lines ds → facts_of r lines ≡ Some (record { lines = lines; dependencies = ds })
facts_read settings r lines ds is a = ap (option_map (λ ds. record { lines = lines; dependencies = ds })) (asked_read settings lines ds (r.dependencies lines) (is.dependencies lines) a)

facts_there : (settings : Set) (r : ManifestReading) (before now : ℕ) (lines : List Line) (ds : List Dependency) (file : Option (List ℕ)) → IsReading settings r → IsThere file (IsFetched before now lines) → LinesAsk settings lines ds
    → facts_in r file ≡ Some (record { lines = lines; dependencies = ds })
facts_there settings r before now lines ds None is f a = absurd f
facts_there settings r before now lines ds (Some bytes) is f a =
    ap (option_and_then (facts_of r)) (lines_read before now lines bytes (r.lines bytes) (is.lines bytes) f) ∙ facts_read settings r lines ds is a

says_of : (settings : Set) (c : Case) (stem : List ℕ) (v : Parts) (o : Option Installed) (before now : ℕ) (lines : List Line) (ds : List Dependency) → IsReading settings c.reading
    → Got o (c.file stem v) before now lines → LinesAsk settings lines ds → said_of c o stem v ≡ Some (record { lines = lines; dependencies = ds })
says_of settings c stem v None before now lines ds is g a = facts_there settings c.reading before now lines ds (c.file stem v) is g a
says_of settings c stem v (Some p) before now lines ds is g a = ap (facts_of c.reading) (sym g.0) ∙ facts_read settings c.reading lines ds is a

few_of : (o : Option Installed) (file : Option (List ℕ)) (before now : ℕ) (lines : List Line) → Got o file before now lines → manifest_bytes_read o file ≤ manifest_limit
few_of None None before now lines g = absurd g
few_of None (Some bytes) before now lines g = g.fits.alone
few_of (Some p) file before now lines g = omega arith

counted_of : (o : Option Installed) (file : Option (List ℕ)) (before now : ℕ) (lines : List Line) → Got o file before now lines → now ≡ before + manifest_bytes_read o file
counted_of None None before now lines g = absurd g
counted_of None (Some bytes) before now lines g = g.counted
counted_of (Some p) file before now lines g = g.1 ∙ omega arith

some_where : {X : Type 0} (b : Bool) (x : X) → is_some (cond b (Some x) None) ≡ b
some_where true x = refl
some_where false x = refl

-- a version stands where the image has its manifest
stands_at_own : (o : Option Installed) (v : Parts) → is_some (at_version o v) ≡ is_version (option_map (λ (p : Installed). p.version) o) v
stands_at_own None v = refl
stands_at_own (Some p) v = some_where (is_same_version v p.version) p

-- a manifest that was judged, by what is told of its version
pub judged_so : {A : Type 0} (settings : Set) (c : Case) (stem : List ℕ) (v w : Parts) (lines : List Line) (read : Read) (see : A → Installed) (mine : Option A) → w ≡ v → read.version ≡ w → read.manifest.lines.items ≡ lines
    → LinesAsk settings lines read.tests.items → read.gone ≡ tell_obsolete lines → read.comes ≡ may_come c stem w → read.stands ≡ is_some mine → option_map see mine ≡ own c stem w
    → read.newest ≡ is_version (greatest c stem) w → IsJudgedRead settings c stem v lines read
judged_so settings c stem v w lines read see mine same version manifest asks gone comes stands found newest = record {
  version = version ∙ same;
  manifest = manifest;
  asks = asks;
  gone = gone;
  comes = comes ∙ ap (may_come c stem) same;
  stands = stands ∙ there_mapped see mine ∙ ap is_some found ∙ stands_at_own (installed_at c stem) w ∙ ap (is_version (installed_version c stem)) same;
  newest = newest ∙ ap (is_version (greatest c stem)) same;
}

-- a manifest that was got and judged was read
pub read_behind : (settings : Set) (c : Case) (stem : List ℕ) (v : Parts) (before now : ℕ) (lines : List Line) (read : Read) → IsReading settings c.reading → Got (own c stem v) (c.file stem v) before now lines
    → IsJudgedRead settings c stem v lines read → IsReadBehind c before now stem v read
read_behind settings c stem v before now lines read is g j = record {
  is = record {
    version = j.version;
    says = says_of settings c stem v (own c stem v) before now lines read.tests.items is g j.asks ∙ ap (λ (ls : List Line). Some (record { lines = ls; dependencies = read.tests.items })) (sym j.manifest);
    gone = j.gone ∙ ap tell_obsolete (sym j.manifest);
    comes = j.comes;
    stands = j.stands;
    newest = j.newest;
  };
  few = few_of (own c stem v) (c.file stem v) before now lines g;
  counted = counted_of (own c stem v) (c.file stem v) before now lines g;
}

-- ---- why it wasn't

file_fault : (settings : Set) (total : ℕ) (file : Option (List ℕ)) (name : List ℕ) (why : ProblemFault) → IsFetchFault total file name why → IsManifestFileFault settings total file name why
file_fault settings total file name (fault.NoMatch pattern) h = absurd h
file_fault settings total file name (fault.Ambiguous pattern stems) h = absurd h
file_fault settings total file name (fault.ManifestMissing fmri) h = h
file_fault settings total file name (fault.BadManifest fmri why) h = h
file_fault settings total file name (fault.BadDepend fmri line) h = absurd h
file_fault settings total file name (fault.TooLarge which count) h = h
file_fault settings total file name fault.SourceFault h = tt

pub got_fault : (settings : Set) (total : ℕ) (o : Option Installed) (file : Option (List ℕ)) (name : List ℕ) (why : ProblemFault) → GotFault o file total name why → FaultOf o settings total file name why
got_fault settings total None file name why h = file_fault settings total file name why h
got_fault settings total (Some p) file name why h = absurd h

there_fault : (settings : Set) (before now : ℕ) (lines : List Line) (file : Option (List ℕ)) (name : List ℕ) (why : ProblemFault) → IsThere file (IsFetched before now lines) → IsOwnFault settings lines name why
    → IsManifestFileFault settings before file name why
there_fault settings before now lines file name (fault.NoMatch pattern) g h = absurd h
there_fault settings before now lines file name (fault.Ambiguous pattern stems) g h = absurd h
there_fault settings before now lines file name (fault.ManifestMissing fmri) g h = absurd h
there_fault settings before now lines file name (fault.BadManifest fmri why) g h = absurd h
there_fault settings before now lines None name (fault.BadDepend fmri line) g h = absurd g
there_fault settings before now lines (Some bytes) name (fault.BadDepend fmri line) g h = ((g.fits, (lines, g.manifest, h.0)), h.1)
there_fault settings before now lines file name (fault.TooLarge which count) g h = absurd h
there_fault settings before now lines file name fault.SourceFault g h = absurd h

pub judged_fault : (settings : Set) (before now : ℕ) (lines : List Line) (o : Option Installed) (file : Option (List ℕ)) (name : List ℕ) (why : ProblemFault) → Got o file before now lines → IsOwnFault settings lines name why
    → FaultOf o settings before file name why
judged_fault settings before now lines None file name why g h = there_fault settings before now lines file name why g h
judged_fault settings before now lines (Some p) file name why g h = subst (λ ls. IsOwnFault settings ls name why) g.0 h

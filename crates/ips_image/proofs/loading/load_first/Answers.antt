use Rattle.std.proofs.Common.{◌≡◌, Err, List, map, sym, subst}
use Rattle.std.specs.List.{AllByRecursion}
use Rattle.ips_text.specs.declared.refusal.Or.TheVariants.{Bad}
use Rattle.ips_fmri.specs.declared.fmri.Fmri.{Fmri}
use Rattle.ips_outside.specs.Image.{Image}
use Rattle.ips_records.specs.Lines.{lines_text}
use Rattle.ips_state.specs.State.{installed}
use Rattle.ips_state.specs.Text.{name_lines}
use Rattle.ips_state.specs.Lawful.{AreVersioned}
use Rattle.ips_load.specs.Held.{HoldsManifest, Stands}
use Rattle.ips_load.specs.declared.fault.StateFault.TheVariants.{FolderFault}
use Rattle.ips_load.proofs.Answered.{bad_weaker}
use Rattle.ips_image.specs.Whole.{IsNamedFault}
use Rattle.ips_image.proofs.Told.{still_told, still_held}
use Rattle.ips_image.proofs.Whole.{installed_is_path, listed_held, named_fault, named_packages, on_both}
use Rattle.ips_image.proofs.loading.load_first.Goals as goal

pub path_of-requires : goal.path_of-requires
path_of-requires g c = installed_is_path

pub returns-in-Ok-clause-packages : goal.returns-in-Ok-clause-packages
returns-in-Ok-clause-packages g c =
    on_both c.load_named.result _ _ _ (λ names each. named_packages c.deref.result.now (map installed c.load_named.new.packages.items) (subst AreVersioned (sym c.deref.ensures.value) c.in-Ok.ensures.lawful) names each)
    c.load_named.ensures.names c.load_named.ensures.packages

pub returns-in-Ok-clause-held : goal.returns-in-Ok-clause-held
returns-in-Ok-clause-held g c = λ told.
    let o = g.F.Source.outside in
    let t = (o.state c.args.folder.now).held in
    let failed = c.load_names.result ≡ Err (Bad FolderFault) in
    let same = still_held o c.args.folder.now c.load_names.new.folder failed c.load_names.ensures.reads in
    let packages = map installed c.load_named.new.packages.items in
    let stands = subst (λ (l : List Fmri). Stands t c.in_ok-path.path.bytes (lines_text (name_lines l))) (sym c.deref.ensures.value) (c.in-Ok.ensures.found told) in
    on_both c.load_named.result _ _ _ (λ names each. listed_held t c.in_ok-path.path.bytes c.deref.result.now packages c.in_ok-path.ensures stands names (subst (λ (x : Image). AllByRecursion (HoldsManifest x) packages) same each))
    c.load_named.ensures.names (c.load_named.ensures.held (still_told o c.args.folder.now c.load_names.new.folder failed c.load_names.ensures.reads told))

pub returns-in-Ok-clause-fault : goal.returns-in-Ok-clause-fault
returns-in-Ok-clause-fault g c = λ told.
    let o = g.F.Source.outside in
    let t = (o.state c.args.folder.now).held in
    let failed = c.load_names.result ≡ Err (Bad FolderFault) in
    let same = still_held o c.args.folder.now c.load_names.new.folder failed c.load_names.ensures.reads in
    let names = c.deref.result.now in
    let stands = subst (λ (l : List Fmri). Stands t c.in_ok-path.path.bytes (lines_text (name_lines l))) (sym c.deref.ensures.value) (c.in-Ok.ensures.found told) in
    bad_weaker c.load_named.result _ _ (λ f h. named_fault t c.in_ok-path.path.bytes names f c.in_ok-path.ensures (subst AreVersioned (sym c.deref.ensures.value) c.in-Ok.ensures.lawful) stands (subst (λ (x : Image). IsNamedFault names x f) same h))
    (c.load_named.ensures.fault (still_told o c.args.folder.now c.load_names.new.folder failed c.load_names.ensures.reads told))

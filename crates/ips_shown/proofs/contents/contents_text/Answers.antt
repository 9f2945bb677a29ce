use Rattle.std.proofs.Common.{◌∙◌, ◌++◌, List, ℕ, ap, sym, subst}
use Rattle.std.specs.List.{flat_map}
use Rattle.ips_text.specs.Quote.{shown}
use Rattle.ips_manifest.specs.declared.line.Line.{Line}
use Rattle.ips_records.specs.Lines.{ended}
use Rattle.ips_shown.specs.Shown.{ArePaths, AreContents}
use Rattle.ips_shown.proofs.contents.contents_text.Goals as goal

pub push_paths-requires : goal.push_paths-requires
push_paths-requires c = subst ArePaths (sym c.deref-2.ensures.value) (λ path h. c.in_ok-gathered.ensures.proper path ((c.in_ok-paths.ensures.each path).0 h))

pub returns : goal.returns
returns c = record {
  paths = c.in_ok-paths.paths.items;
  are = subst (λ (lines : List Line). AreContents c.args.settings.now lines c.in_ok-paths.paths.items) c.deref.ensures.value (record {
    order = c.in_ok-paths.ensures.order;
    each = λ path. (
      λ h. (c.in_ok-gathered.ensures.each path).0 ((c.in_ok-paths.ensures.each path).0 h),
      λ d. (c.in_ok-paths.ensures.each path).1 ((c.in_ok-gathered.ensures.each path).1 d),
    );
  });
  is = c.from_string.ensures ∙ c.in_ok-push_paths.ensures ∙ ap (λ (b : List ℕ). b ++ flat_map (λ path. ended (shown path)) c.deref-2.result.now) c.new-out.ensures.bytes ∙ ap (flat_map (λ path. ended (shown path))) c.deref-2.ensures.value;
}

use Rattle.std.proofs.Common.{◌∙◌, sym}
use Rattle.plugin_api.proofs.Indexing.{root_alone}
use Rattle.plugin_api.proofs.index.has_root_alone.Goals as goal

pub returns-in-Some : goal.returns-in-Some
returns-in-Some c = λ yes.
    let found = rw (c.labels.ensures, c.root-root.ensures) at c.in-Some.ensures.found in
    root_alone c.args.zones.now _ (sym c.len.ensures ∙ c.if-len-ne1.false) found.is

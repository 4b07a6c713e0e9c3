use Rattle.std.proofs.Common.{◌∙◌}
use Rattle.plugin_api.specs.{picked}
use Rattle.plain_chain.proofs.Chosen.{lt-some, none-extra, some-extra}
use Rattle.plain_chain.proofs.deciding.has_extra.Goals as goal

pub returns-in-Some : goal.returns-in-Some
returns-in-Some c =
    let read = c.args.read.now in
    let q = c.args.query.now in
    lt-some c.in-Some.chain.now.extras c.len.result c.len.ensures
    ∙ some-extra read.chains read.blocks c.requires.extras (picked read.blocks q.local q.name) c.in-Some.chain.now c.in-Some.ensures

pub returns-in-None : goal.returns-in-None
returns-in-None c =
    let read = c.args.read.now in
    let q = c.args.query.now in
    none-extra read.chains read.blocks c.requires.extras (picked read.blocks q.local q.name) c.in-None.ensures

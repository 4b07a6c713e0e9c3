use Rattle.std.proofs.Common.{◌≡◌, Err, rules}
use Rattle.plugin_api.specs.{Sayings}
use Rattle.plugin_api.specs.declared.verdict.Verdict.TheVariants as verdict
use Rattle.plain_chain.proofs.Chosen.{plain_err}
use Rattle.plain_chain.proofs.reading.plain_read.Goals as goal

pub returns-in_err-read-clause-reads : goal.returns-in_err-read-clause-reads
returns-in_err-read-clause-reads g c =
    let pass : Sayings = λ name d q. verdict.Pass in
    let e = c.in_err-read.field-0.0 in
    let is : c.from_residual.result ≡ Err e = search rules in
    rw is (plain_err c.args.bundle.now c.args.default_port (g.M.PatternMaker.last c.read_bundle.new.maker) e (c.in_err-read.ensures.reads pass))

pub returns-clause-reads : goal.returns-clause-reads
returns-clause-reads g c =
    let pass : Sayings = λ name d q. verdict.Pass in
    record {
      accepted = (c.in_ok-read.ensures.reads pass).accepted;
      files = c.as_slice.ensures;
      whole = record {
        few = (c.in_ok-read.ensures.reads pass).few;
        chains = λ said. rw c.as_slice.ensures ((c.in_ok-read.ensures.reads pass).chains.steps said);
        extras = (c.in_ok-read.ensures.reads pass).chains.extras;
      };
    }

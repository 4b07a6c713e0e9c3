use Rattle.std.proofs.Common.{sym, ap, ◌∙◌, option_map}
use Rattle.command_line.proofs.Options.{empty_of, given_again, goes_on, is_serve, no_file, no_option, serves_in_range, starts}
use Rattle.command_line.proofs.command.read_serve.Goals as goal

pub loop-rest-init : goal.loop-rest-init
loop-rest-init c = starts c.args.words.now

pub returns-in_default-clause-serve : goal.returns-in_default-clause-serve
returns-in_default-clause-serve c = no_option c.args.words.now c.loop-rest.rest.now c.loop-rest.given c.loop-rest.invariant c.loop-rest-test.true c.in_default.ensures

pub returns-in_default-with-clause-serve : goal.returns-in_default-with-clause-serve
returns-in_default-with-clause-serve c =
    given_again c.args.words.now c.loop-rest.rest.now c.in-Some.behind.now c.loop-rest.given c.in-Some.choice c.loop-rest.invariant c.in-Some.ensures (sym c.with.ensures ∙ c.in_default-with.is)

pub loop-rest-preserved : goal.loop-rest-preserved
loop-rest-preserved c =
    goes_on c.args.words.now c.loop-rest.rest.now c.in-Some.behind.now c.loop-rest.given c.in-Some-with.more c.in-Some.choice c.loop-rest.invariant c.in-Some.ensures (sym c.with.ensures ∙ c.in-Some-with.is)

pub returns-in_default-conf-clause-serve : goal.returns-in_default-conf-clause-serve
returns-in_default-conf-clause-serve c = no_file c.args.words.now c.loop-rest.rest.now c.loop-rest.given c.loop-rest.invariant (empty_of c.loop-rest.rest.now c.loop-rest-test.false) c.in_default-conf.is

pub returns-clause-serve : goal.returns-clause-serve
returns-clause-serve c =
    rw (c.unwrap_or.ensures, c.unwrap_or-2.ensures, c.unwrap_or-3.ensures) (is_serve c.args.words.now c.loop-rest.rest.now c.loop-rest.given c.in-Some-conf.conf.now c.loop-rest.invariant (empty_of c.loop-rest.rest.now c.loop-rest-test.false) (ap (option_map (λ f. f.now)) c.in-Some-conf.is))

pub returns-clause-range : goal.returns-clause-range
returns-clause-range c =
    rw (c.unwrap_or.ensures, c.unwrap_or-2.ensures, c.unwrap_or-3.ensures) (serves_in_range c.args.words.now c.loop-rest.rest.now c.loop-rest.given c.in-Some-conf.conf.now c.loop-rest.invariant)

use Rattle.std.proofs.Common.{◌≡◌, ◌∙◌, Err, List, ℕ, map, refl, sym, ap, subst, rules}
use Rattle.std.specs.List.{All}
use Rattle.chain_meaning.specs.Accepting.{IsAccepted}
use Rattle.chain_meaning.specs.Grounds.{ground_at, terms_on}
use Rattle.chain_build.specs.Places.{AreTaken}
use Rattle.chain_build.specs.Plans.{AreKeyed, extras_in}
use Rattle.chain_build.proofs.Making.{all_extras, made_err}
use Rattle.chain_build.proofs.checking.check_over.Goals as goal

pub returns-in_err-read-clause-plans : goal.returns-in_err-read-clause-plans
returns-in_err-read-clause-plans g c =
    let taken = g.B.Rulebook.taken in
    let said = g.B.Rulebook.said in
    let e = c.in_err-read.field-0.0 in
    let is : c.from_residual.result ≡ Err e = search rules in
    rw is (made_err taken said c.args.bundle (ground_at c.args.default_port (map g.E.Extra.title c.args.judges.now)) (g.M.PatternMaker.last c.reread_bundle.new.maker) e (c.in_err-read.ensures.reads said))

pub new-requires : goal.new-requires
new-requires g c = record { few = (c.in_ok-read.ensures.reads g.B.Rulebook.said).few }

pub invariant_of-result : goal.invariant_of-result
invariant_of-result g c =
    let taken = g.B.Rulebook.taken in
    let said = g.B.Rulebook.said in
    let read = c.in_ok-read.ensures.reads said in
    let extras : c.in_ok-extras.extras ≡ map extras_in c.in_ok-read.read.chains = c.in_ok-extras.ensures.extras ∙ ap (map extras_in) c.as_slice-2.ensures in
    record {
      readable = c.requires.readable;
      accepted = subst (λ (names : List (List ℕ)). IsAccepted (terms_on taken said (ground_at c.args.default_port names)) c.args.bundle c.in_ok-read.read.blocks) (sym c.in_ok-names.ensures) read.accepted;
      keyed = subst AreKeyed c.as_slice.ensures (c.are_keyed.ensures (search rules));
      index = search rules;
      chains = read.chains.steps said;
      behind = read.chains.behind;
      cached = read.chains.cached;
      extras = extras;
      extras_are = read.chains.extras;
      taken_are = subst (All (AreTaken taken)) (sym extras) (all_extras taken c.in_ok-read.read.chains read.chains.taken_are);
      few = c.in_ok-extras.ensures.few;
      ports = search rules;
    }

pub returns-clause-plans : goal.returns-clause-plans
returns-clause-plans g c = record { bundle_is = refl; ground_is = ap (ground_at c.args.default_port) c.in_ok-names.ensures; are = invariant_of-result g c }

use Rattle.std.proofs.Common.{List, length, slice_get, slice_set as set, arith, refl, ap, ◌∙◌}
use Rattle.std.proofs.lemmas.List.{set-get_or}
use Rattle.std.proofs.lemmas.Option.{get_or_from_slice_get, slice_get_within}
use Rattle.dns_data.specs.declared.directive.Directive.{Directive}
use Rattle.explain_chain.proofs.asking.query_lines.Goals as goal

pub index_mut-requires : goal.index_mut-requires
index_mut-requires g c = let within = slice_get_within c.args.plans.now.extras c.in-Some.number c.in-Some.chain.now.extras c.in-Some.ensures.extras in let seated = c.requires.holds.seated in omega (arith, within, ap length seated, c.args.held.now.seats.ok)

pub trace-requires : goal.trace-requires
trace-requires g c = record {
  seated = c.index_mut.ensures.value ∙ get_or_from_slice_get c.args.held.now.seats.items c.in-Some.number c.in-Some.chain.now.extras _ (ap (λ (l : List (List Directive)). slice_get l c.in-Some.number) c.requires.holds.seated ∙ c.in-Some.ensures.extras);
}

pub returns-in_err-trail-clause-same : goal.returns-in_err-trail-clause-same
returns-in_err-trail-clause-same g c = record {
  serial = refl;
  worker = refl;
  seats = ap (set c.args.held.now.seats.items c.in-Some.number) (c.trace.ensures.seated ∙ c.index_mut.ensures.value) ∙ set-get_or c.args.held.now.seats.items c.in-Some.number _;
  uses = refl;
}

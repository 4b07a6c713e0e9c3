use Rattle.std.proofs.Common.{◌≡◌, ◌<◌, Some, length, ◌∙◌, sym, ap, arith}
use Rattle.std.proofs.lemmas.Option.{slice_get-get_or}
use Rattle.corefile_blocks.specs.declared.shared.Snippet.{Snippet}
use Rattle.corefile_blocks.specs.Places.{place_from}
use Rattle.corefile_blocks.proofs.SnippetLemmas.{placed_more}
use Rattle.corefile_blocks.proofs.snippets.Snippets.push.Goals as goal

pub invariant_of-self-in_default : goal.invariant_of-self-in_default
invariant_of-self-in_default c =
    let places = c.self.inside.places.items in
    let place = c.place_from-place.result in
    let within : place < length places = omega (arith, c.place_from-place.ensures.inside, c.self.invariant.many) in
    let old = slice_get-get_or places place c.index_mut.result.now within ∙ ap Some (sym c.index_mut.ensures.value) in
    let copy : Snippet = record { name = c.in_ok-copy.field-0; lines = c.in_ok-share.field-0 } in
    let same : copy ≡ c.args.snippet = λ i. record { name = c.in_ok-copy.ensures i; lines = c.in_ok-share.ensures i } in
    placed_more c.self.inside.items _ places c.index_mut.result.now _ c.args.snippet copy place c.self.invariant (c.place_from-place.ensures.place ∙ ap (place_from 256 0) c.as_slice.ensures)
    c.place_from-place.ensures.inside old c.in_ok-push.ensures.ok same c.in_default.ensures.ok

use Rattle.std.proofs.Common.{Some, ◌∙◌, refl, sym, ap}
use Rattle.std.proofs.lemmas.Option.{slice_get_read}
use Rattle.corefile_blocks.proofs.SeekLemmas.{named_missing}
use Rattle.corefile_blocks.proofs.seeking.Seeker.next.Goals as goal

pub returns-in-Some-clause-name : goal.returns-in-Some-clause-name
returns-in-Some-clause-name c =
    let known = rw c.as_slice.ensures at c.known-self.ensures.next in
    let lookup = rw c.as_slice-in-loop-name.ensures at c.in-Some.ensures.lookup in
    let is = slice_get_read c.loop-name.self.reader.named _ c.known-self.result c.in-Some.name.now refl lookup.3.0 lookup.1 in
    ap Some c.in_ok-copy.ensures ∙ sym (named_missing c.args.bundle.now c.loop-name.self c.in-Some.name.now c.loop-name.invariant (known ∙ is))

use Rattle.std.proofs.Common.{◌<◌, arith, length, ◌≡◌, ap, ◌∙◌, subst, sym}
use Rattle.dns_data.specs.{spelled}
use Rattle.dns_names.specs.NameLaws.{length-spelled}
use Rattle.name_table.specs.Table.{IsMissing}
use Rattle.name_table.specs.Hash.{hash_of}
use Rattle.name_table.proofs.Tables.{table_after, more_after, mark_push}
use Rattle.name_table.proofs.table.NameTable.push.Goals as goal

pub bounds-self-inside-bytes : goal.bounds-self-inside-bytes
bounds-self-inside-bytes c =
    let short = c.as_wire-wire.ensures.proper.short in
    omega (arith, ap length c.as_wire-wire.ensures.value, length-spelled c.args.name, short)

pub invariant_of-self-in_err-push-2 : goal.invariant_of-self-in_err-push-2
invariant_of-self-in_err-push-2 c =
    let is = c.in_ok-push.ensures.ok in
    let table = table_after _ _ c.place_of-place.result _ c.index_mut.result.now c.push.new.self c.self.invariant.0 (omega arith) c.index_mut.ensures.value is in
    rw c.in_err-push-2.ensures.items (table, c.self.invariant.1)

pub invariant_of-self-2 : goal.invariant_of-self-2
invariant_of-self-2 c =
    let number : c.len-number.result ≡ length c.self.inside.names.items = omega arith in
    let count : c.len.result ≡ length c.self.inside.buckets.items = omega arith in
    let is = rw number at c.in_ok-push.ensures.ok in
    let place = rw count at c.place_of-place.ensures.value in
    let hash = c.hash_of-hash.ensures ∙ ap hash_of c.as_wire-wire.ensures.value in
    let short = c.as_wire-wire.ensures.proper.short in
    let wire : length c.as_wire-wire.result.now ≡ length (spelled c.args.name) = ap length c.as_wire-wire.ensures.value in
    let inside : length c.as_wire-wire.result.now < length c.self.inside.lengths = omega (arith, wire, length-spelled c.args.name, short, c.self.told) in
    let marks = mark_push c.self.inside.names.items c.args.name c.self.inside.lengths _ c.self.invariant.1 wire inside in
    rw c.in_ok-push-2.ensures.items (
      more_after _ _ c.place_of-place.result c.hash_of-hash.result c.index_mut.result.now c.push.new.self c.args.name c.self.invariant.0 (omega arith) c.index_mut.ensures.value is
          hash c.as_wire-wire.ensures.proper place (subst (λ names. IsMissing names c.args.name) (sym c.self.view_is) c.requires),
      marks,
    )

use Rattle.std.proofs.Common.{◌≡◌, ◌∙◌, sym}
use Rattle.std.specs.Arc.{arc_value}
use Rattle.plugin_api.specs.{fallthrough_of}
use Rattle.file_plugin.specs.Zones.{origins_of, served_of}
use Rattle.file_plugin.proofs.SoFar.{loaded_is}
use Rattle.file_plugin.proofs.plan.FilePlan.reread.Goals as goal

pub invariant_of-result : goal.invariant_of-result
invariant_of-result c =
    let d = c.in_ok-copy.ensures in
    let z = c.in_ok-copy-2.ensures in
    let t = c.in_ok-from_slice.ensures in
    let words = rw c.in-Ok.is at c.in_ok-origins.ensures in
    let origins : origins_of c.args.zones.now c.args.directive.now.args ≡ c.in-Ok.origins = rw c.as_slice.ensures at words.1 in
    let fall : fallthrough_of c.args.directive.now.body ≡ arc_value c.in_ok-fallthrough.fallthrough = sym (rw c.as_slice-4.ensures at c.in_ok-fallthrough.ensures) in
    let read = rw c.as_slice-5.ensures at c.in_ok-loaded.ensures in
    loaded_is (record { directive = c.args.directive.now; zones = c.args.zones.now; text = c.in-Some-file.text.now }) c.in-Ok.origins (arc_value c.in_ok-fallthrough.fallthrough) c.in_ok-loaded.loaded origins fall read
    ∙ sym (λ i. served_of (record { directive = d i; zones = z i; text = t i }))

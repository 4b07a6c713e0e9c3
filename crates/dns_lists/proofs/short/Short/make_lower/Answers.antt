use Rattle.std.proofs.Common.{take, ap, ◌∙◌, map}
use Rattle.std.proofs.lemmas.List.{take-map}
use Rattle.std.specs.Char.{to_ascii_lowercase}
use Rattle.dns_lists.proofs.short.Short.make_lower.Goals as goal

pub returns : goal.returns
returns c =
    let is = c.make_ascii_lowercase.ensures.after ∙ ap (map to_ascii_lowercase) c.as_mut_slice.ensures.value in
    ap (take c.self.inside.len) is ∙ take-map to_ascii_lowercase c.self.inside.len c.self.inside.bytes ∙ ap (map to_ascii_lowercase) c.self.view_is

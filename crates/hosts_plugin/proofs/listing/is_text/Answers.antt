use Rattle.std.proofs.Common.{◌≡◌, refl, Bool, true, false, ℕ, List, sym}
use Rattle.std.specs.Str.{IsUtf8, is_utf8}
use Rattle.std.proofs.lemmas.Str.{IsUtf8-from_is_utf8, is_utf8-from_IsUtf8}
use Rattle.hosts_plugin.proofs.listing.is_text.Goals as goal

no_text : (bytes : List ℕ) (b : Bool) → is_utf8 bytes ≡ b → (IsUtf8 bytes → ⊥) → false ≡ b
no_text bytes true e n = absurd (n (IsUtf8-from_is_utf8 bytes e))
no_text bytes false e n = refl

pub returns-in-Ok : goal.returns-in-Ok
returns-in-Ok c = sym (is_utf8-from_IsUtf8 c.args.word.now c.in-Ok.ensures.cases.1)

pub returns-in-Err : goal.returns-in-Err
returns-in-Err c = no_text c.args.word.now (is_utf8 c.args.word.now) refl c.in-Err.ensures.cases.0

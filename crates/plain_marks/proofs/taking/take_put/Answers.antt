use Rattle.std.proofs.Common.{◌≡◌, ◌∷◌, Bool, true, false, refl, sym, ap, ◌∙◌, if◌then◌else◌}
use Rattle.std.specs.Prelude.{◌&&◌}
use Rattle.cache_rules.specs.{key_of}
use Rattle.outside.specs.{same_entry, same_key}
use Rattle.outside.specs.Meanings.{Done, Off}
use Rattle.outside.specs.declared.entry.Key.{Key}
use Rattle.outside.specs.declared.mark.Mark.{Mark}
use Rattle.chain_meaning.specs.Caching.{take_put}
use Rattle.plain_marks.specs.MeantLaws.{off-at}
use Rattle.plain_marks.proofs.Single.{no-put, one-done}
use Rattle.plain_marks.proofs.taking.take_put.Goals as goal

pub returns-then-is_put : goal.returns-then-is_put
returns-then-is_put c =
    let same : (same_key (key_of c.args.entry.now.origin) c.in-Put.other && same_entry c.args.entry.now c.in-Put.put) ≡ true = ap (λ (k : Key). same_key k c.in-Put.other && same_entry c.args.entry.now c.in-Put.put) (sym c.requires) ∙ sym c.if-is_put.ensures in
    one-done (take_put c.args.entry.now c.args.decision) c.args.marks.now c.in-Some.mark.now c.in-Some.left.now c.args.decision c.in-Some.ensures.cases.0
    (λ rest. ap (λ (m : Mark). take_put c.args.entry.now c.args.decision (m ∷ rest)) c.in-Put.is
    ∙ ap (λ (t : Bool). if t then Done c.args.decision rest else Off) same)

pub returns-else-is_put : goal.returns-else-is_put
returns-else-is_put c =
    let same : (same_key (key_of c.args.entry.now.origin) c.in-Put.other && same_entry c.args.entry.now c.in-Put.put) ≡ false = ap (λ (k : Key). same_key k c.in-Put.other && same_entry c.args.entry.now c.in-Put.put) (sym c.requires) ∙ sym c.if-is_put.ensures in
    off-at (take_put c.args.entry.now c.args.decision) c.args.marks.now c.in-Some.mark.now c.in-Some.left.now c.in-Some.ensures.cases.0 refl
    (λ rest. ap (λ (m : Mark). take_put c.args.entry.now c.args.decision (m ∷ rest)) c.in-Put.is
    ∙ ap (λ (t : Bool). if t then Done c.args.decision rest else Off) same)

pub returns-in_default-mark : goal.returns-in_default-mark
returns-in_default-mark c = off-at (take_put c.args.entry.now c.args.decision) c.args.marks.now c.in-Some.mark.now c.in-Some.left.now c.in-Some.ensures.cases.0 refl (no-put c.args.entry.now c.args.decision c.in-Some.mark.now c.in_default-mark.not-Put)

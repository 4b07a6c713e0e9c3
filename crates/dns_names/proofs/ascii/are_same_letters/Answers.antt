use Rattle.std.proofs.Common.{◌≡◌, ◌<◌, ◌+◌, ◌↔◌, ℕ, Bool, IsTrue, nat_eq, List, [], ◌∷◌, ◌++◌, length, take, get_or, map, sym, ◌∙◌, arith}
use Rattle.std.proofs.Math.Bool.{◌&&◌}
use Rattle.std.proofs.lemmas.Bool.{and_parts, and_from, eqb-true, eq-eqb}
use Rattle.std.proofs.lemmas.List.{map_more, same_from_push}
use Rattle.std.specs.Char.{to_ascii_lowercase}
use Rattle.dns_names.proofs.ascii.are_same_letters.Goals as goal

more : (f : ℕ → ℕ) (a b : List ℕ) (i x y : ℕ) (same : Bool) → i < length a → i < length b → x ≡ f (get_or a i 0) → y ≡ f (get_or b i 0)
    → (IsTrue same ↔ (map f (take i a) ≡ map f (take i b))) → (IsTrue (same && nat_eq x y) ↔ (map f (take (i + 1) a) ≡ map f (take (i + 1) b)))
more f a b i x y same p q e d before =
    let left = map_more f a i 0 p in
    let right = map_more f b i 0 q in (
      λ h.
          let parts = and_parts same (nat_eq x y) h in
          let heads : f (get_or a i 0) ≡ f (get_or b i 0) = sym e ∙ eqb-true x y parts.1 ∙ d in
          left ∙ (λ j. before.0 parts.0 j ++ heads j ∷ []) ∙ sym right,
      λ h.
          let parts = same_from_push (map f (take i a)) (map f (take i b)) (f (get_or a i 0)) (f (get_or b i 0)) (sym left ∙ h ∙ right) in
          and_from same (nat_eq x y) (before.1 parts.0) (eq-eqb x y (e ∙ parts.1 ∙ sym d)),
    )

pub loop-i-preserved : goal.loop-i-preserved
loop-i-preserved c =
    more to_ascii_lowercase c.args.a.now c.args.b.now c.loop-i.i c.to_ascii_lowercase.result c.to_ascii_lowercase-in-loop-i.result c.loop-i.same (omega arith) (omega arith)
    c.to_ascii_lowercase.ensures.value c.to_ascii_lowercase-in-loop-i.ensures.value c.loop-i.invariant

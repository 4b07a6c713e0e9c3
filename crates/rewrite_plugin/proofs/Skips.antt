-- Texts behind bytes that are passed over.
use Rattle.std.proofs.Common.{◌≡◌, ◌∙◌, ℕ, zero, suc, List, [], ◌∷◌, ◌++◌, drop, Option, Some, refl, sym, ap, append_assoc}
use Rattle.rewrite_plugin.specs.Texts.{filled_from, part_at, replaced_at, replaced_from}

pub replaced_skip : (part to : List ℕ) (skip : ℕ) (text : List ℕ) → replaced_from part to skip text ≡ replaced_from part to 0 (drop skip text)
replaced_skip part to zero text = refl
replaced_skip part to (suc skip) [] = refl
replaced_skip part to (suc skip) (byte ∷ text) = replaced_skip part to skip text

pub filled_skip : (span : ℕ → Option (ℕ × ℕ)) (text : List ℕ) (skip : ℕ) (to : List ℕ) → filled_from span text skip to ≡ filled_from span text 0 (drop skip to)
filled_skip span text zero to = refl
filled_skip span text (suc skip) [] = refl
filled_skip span text (suc skip) (byte ∷ to) = filled_skip span text skip to

-- a part is replaced
pub replaced_step : (part to out : List ℕ) (byte : ℕ) (behind : List ℕ) (skip : ℕ) → part_at part (byte ∷ behind) ≡ Some skip
    → (out ++ to) ++ replaced_from part to 0 (drop skip behind) ≡ out ++ replaced_from part to 0 (byte ∷ behind)
replaced_step part to out byte behind skip e =
    append_assoc out to (replaced_from part to 0 (drop skip behind))
    ∙ ap (λ (l : List ℕ). out ++ (to ++ l)) (sym (replaced_skip part to skip behind))
    ∙ ap (λ (o : Option ℕ). out ++ replaced_at to byte o (λ skip. replaced_from part to skip behind)) (sym e)

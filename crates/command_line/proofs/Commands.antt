-- Words are one command at most.
use Rattle.std.proofs.Common.{◌≡◌, ℕ, List, [], ◌∷◌, get_or, sym, ap, ◌∙◌, subst, arith}
use Rattle.std.specs.Prelude.{codes}
use Rattle.command_line.specs.Command.{CommandData, ServeData, serve, load, IsCommand, IsLoad, IsServe}

first_byte : List (List ℕ) → ℕ
first_byte [] = 0
first_byte (word ∷ words) = get_or word 0 0

others_of : List (List ℕ) → List (List ℕ)
others_of [] = []
others_of (word ∷ words) = words

-- what stands behind `serve` is no way to serve
pub no_serve : (words others : List (List ℕ)) → words ≡ codes "serve" ∷ others → ((s : ServeData) → IsServe others s → ⊥) → (c : CommandData) → IsCommand words c → ⊥
unfolding first_byte others_of
no_serve words others are none (serve how) is = none how (subst (λ o. IsServe o how) (ap others_of (sym is.words_are ∙ are)) is.is)
no_serve words others are none (load n) is = let e = ap first_byte (sym is.words_are ∙ are) in omega (arith, e)

-- what stands behind `load` is no number
pub no_load : (words others : List (List ℕ)) → words ≡ codes "load" ∷ others → ((n : ℕ) → IsLoad others n → ⊥) → (c : CommandData) → IsCommand words c → ⊥
unfolding first_byte others_of
no_load words others are none (serve how) is = let e = ap first_byte (sym is.words_are ∙ are) in omega (arith, e)
no_load words others are none (load n) is = none n (subst (λ o. IsLoad o n) (ap others_of (sym is.words_are ∙ are)) is.is)

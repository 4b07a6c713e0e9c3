-- Where a variable stands in a word.
use Rattle.std.proofs.Common.{◌≡◌, ℕ, zero, suc, ◌+◌, ◌<◌, ◌≢◌, true, ltb, List, [], ◌∷◌, ◌++◌, length, get_or, take, drop, Option, Some, refl, sym, ap, append_assoc, ◌∙◌, arith}
use Rattle.std.proofs.lemmas.List.{drop_more, append-nil, nil_from_length}
use Rattle.std.proofs.lemmas.Bool.{eq-eqb}
use Rattle.std.proofs.lemmas.Bool.Decides.{nat_tests}
use Rattle.corefile_words.specs.declared.word.Pair.{Pair}
use Rattle.corefile_words.specs.Lines.{before, begins_with}
use Rattle.corefile_words.specs.Variables.{is_other, name_in, variable_at, value_of, put, filled_from, filled}
use Rattle.corefile_words.specs.LinesLaws.{take_before}

at_head : (bytes : List ℕ) (n mark : ℕ) → n < length bytes → get_or bytes n 0 ≡ mark → begins_with mark (drop n bytes) ≡ true
at_head bytes n mark h e = ap (begins_with mark) (drop_more bytes n 0 h) ∙ eq-eqb (get_or bytes n 0) mark e

some_bytes : (n : ℕ) → n ≢ 0 → ltb 0 n ≡ true
some_bytes n h = grind (arith, nat_tests)

-- a name that isn't empty, with a `}` behind it
pub name_found : (bytes : List ℕ) (size : ℕ) → size ≡ length (before is_other bytes) → size ≢ 0 → size < length bytes → get_or bytes size 0 ≡ 125
    → name_in bytes ≡ Some (take size bytes)
name_found bytes size e some inside brace =
    let n = length (before is_other bytes) in
    let first : ltb 0 (length (before is_other bytes)) ≡ true = some_bytes (length (before is_other bytes)) (λ z. some (e ∙ z)) in
    let second : begins_with 125 (drop (length (before is_other bytes)) bytes) ≡ true = at_head bytes (length (before is_other bytes)) 125 (omega arith) (rw (← e) brace) in
    let is : before is_other bytes ≡ take size bytes = sym (take_before is_other bytes) ∙ ap (λ (k : ℕ). take k bytes) (sym e) in
    rw (first, second) (ap Some is)

filled-skip : (env : List Pair) (skip : ℕ) (bytes : List ℕ) → filled_from env skip bytes ≡ filled_from env 0 (drop skip bytes)
filled-skip env zero bytes = refl
filled-skip env (suc skip) [] = refl
filled-skip env (suc skip) (byte ∷ bytes) = filled-skip env skip bytes

-- a variable's value behind what was made so far
pub puts_value : (env : List Pair) (byte : ℕ) (text new rest bytes after word name : List ℕ) → text ++ filled_from env 0 rest ≡ filled_from env 0 word → rest ≡ byte ∷ bytes
    → variable_at rest ≡ Some name → new ≡ text ++ value_of env name → after ≡ drop (length name + 2) bytes → new ++ filled_from env 0 after ≡ filled_from env 0 word
puts_value env byte text new rest bytes after word name says is variable made behind =
    let here : variable_at (byte ∷ bytes) ≡ Some name = ap variable_at (sym is) ∙ variable in
    let step : filled_from env 0 rest ≡ value_of env name ++ filled_from env (length name + 2) bytes =
    ap (filled_from env 0) is ∙ ap (λ (o : Option (List ℕ)). put env byte o (λ skip. filled_from env skip bytes)) here in
    let others : filled_from env (length name + 2) bytes ≡ filled_from env 0 after = filled-skip env (length name + 2) bytes ∙ ap (filled_from env 0) (sym behind) in
    ap (λ (l : List ℕ). l ++ filled_from env 0 after) made ∙ append_assoc text (value_of env name) (filled_from env 0 after)
    ∙ ap (λ (l : List ℕ). text ++ (value_of env name ++ l)) (sym others) ∙ ap (λ (l : List ℕ). text ++ l) (sym step) ∙ says

pub all_filled : (env : List Pair) (text rest word : List ℕ) → text ++ filled_from env 0 rest ≡ filled_from env 0 word → length rest ≡ 0 → text ≡ filled env word
unfolding filled
all_filled env text rest word says none =
    sym (append-nil text) ∙ ap (λ (l : List ℕ). text ++ filled_from env 0 l) (sym (nil_from_length rest none)) ∙ says

-- Calls that are counted, and how many items they use up: one more for each call that is not to fail.
use Rattle.std.proofs.Common.{◌≡◌, ℕ, zero, suc, ◌+◌, ◌<◌, ◌≤◌, ◌^◌, Bool, true, false, cond, List, [], refl, ap, ◌∙◌, add-one, arith}
use Rattle.outside.specs.Script.{is_to_fail, used_up}
use Rattle.outside_mem.specs.Calls.{CallsData, counted}

one_at_most : (b : Bool) → cond b 0 1 ≤ 1
one_at_most true = omega arith
one_at_most false = omega arith

pub used_up_within : (fails : List ℕ) (calls : ℕ) → used_up fails calls ≤ calls
used_up_within fails zero = omega arith
used_up_within fails (suc calls) = omega (arith, one_at_most (is_to_fail fails calls), used_up_within fails calls)

pub used_up_more : (fails : List ℕ) (calls : ℕ) → used_up fails (calls + 1) ≡ cond (is_to_fail fails calls) 0 1 + used_up fails calls
used_up_more fails calls = rw add-one refl

pub failed_more : (fails : List ℕ) (calls : ℕ) → is_to_fail fails calls ≡ true → used_up fails (calls + 1) ≡ used_up fails calls
failed_more fails calls e = used_up_more fails calls ∙ ap (λ b. cond b 0 1 + used_up fails calls) e ∙ omega arith

pub used_more : (fails : List ℕ) (calls : ℕ) → is_to_fail fails calls ≡ false → used_up fails (calls + 1) ≡ used_up fails calls + 1
used_more fails calls e = used_up_more fails calls ∙ ap (λ b. cond b 0 1 + used_up fails calls) e ∙ omega arith

-- the calls behind a call that is one of theirs, or isn't
abbrev pub calls_if : Bool → CallsData → CallsData
calls_if true calls = counted calls
calls_if false calls = calls

pub calls_if-fails : (is : Bool) (calls : CallsData) → (calls_if is calls).fails ≡ calls.fails
calls_if-fails true calls = refl
calls_if-fails false calls = refl

pub calls_if-counted : (is : Bool) (calls : CallsData) → calls.counted + cond is 1 0 < 2 ^ 64 → (calls_if is calls).counted ≡ calls.counted + cond is 1 0
calls_if-counted true calls few = omega arith
calls_if-counted false calls few = omega arith

-- no call fails where none is listed
pub none_fails : (fails : List ℕ) (call : ℕ) → fails ≡ [] → is_to_fail fails call ≡ false
none_fails fails call none = ap (λ (l : List ℕ). is_to_fail l call) none

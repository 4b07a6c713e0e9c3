use Rattle.std.proofs.Common.{◌≡◌, ◌++◌, ◌∷◌, [], ◌+◌, ◌/◌, ◌%◌, List, ℕ, sym, ap, ◌∙◌, arith}
use Rattle.std.proofs.lemmas.Result.{on_ok_weaker}
use Rattle.dns_addr.specs.OctetLaws.{one_digit, two_digits, three_digits}
use Rattle.dns_names.proofs.ReverseWalks.{longer}
use Rattle.dns_names.proofs.reverse.push_octet.Goals as goal

pub returns-then-octet-lt10-clause-value : goal.returns-then-octet-lt10-clause-value
returns-then-octet-lt10-clause-value c =
    on_ok_weaker c.push.result (λ (p : c.push.new.self ≡ c.args.name.now ++ ((48 + c.args.octet % 10) ∷ []) ∷ []). p ∙ ap (λ (d : List ℕ). c.args.name.now ++ d ∷ []) (sym (one_digit c.args.octet c.if-octet-lt10.true))) c.push.ensures.ok

pub returns-then-octet-lt10-clause-room : goal.returns-then-octet-lt10-clause-room
returns-then-octet-lt10-clause-room c =
    on_ok_weaker c.push.result (λ (p : c.push.new.self ≡ c.args.name.now ++ ((48 + c.args.octet % 10) ∷ []) ∷ []). omega (arith, longer c.args.name.now c.push.new.self ((48 + c.args.octet % 10) ∷ []) p)) c.push.ensures.ok

pub returns-then-octet-lt100-clause-value : goal.returns-then-octet-lt100-clause-value
returns-then-octet-lt100-clause-value c =
    on_ok_weaker c.push-then-octet-lt100.result (λ (p : c.push-then-octet-lt100.new.self ≡ c.args.name.now ++ ((48 + c.args.octet / 10 % 10) ∷ (48 + c.args.octet % 10) ∷ []) ∷ []). p ∙ ap (λ (d : List ℕ). c.args.name.now ++ d ∷ []) (sym (two_digits c.args.octet c.if-octet-lt10.false c.if-octet-lt100.true))) c.push-then-octet-lt100.ensures.ok

pub returns-then-octet-lt100-clause-room : goal.returns-then-octet-lt100-clause-room
returns-then-octet-lt100-clause-room c =
    on_ok_weaker c.push-then-octet-lt100.result (λ (p : c.push-then-octet-lt100.new.self ≡ c.args.name.now ++ ((48 + c.args.octet / 10 % 10) ∷ (48 + c.args.octet % 10) ∷ []) ∷ []). omega (arith, longer c.args.name.now c.push-then-octet-lt100.new.self ((48 + c.args.octet / 10 % 10) ∷ (48 + c.args.octet % 10) ∷ []) p)) c.push-then-octet-lt100.ensures.ok

pub returns-else-octet-lt100-clause-value : goal.returns-else-octet-lt100-clause-value
returns-else-octet-lt100-clause-value c =
    on_ok_weaker c.push-else-octet-lt100.result (λ (p : c.push-else-octet-lt100.new.self ≡ c.args.name.now ++ ((48 + c.args.octet / 100) ∷ (48 + c.args.octet / 10 % 10) ∷ (48 + c.args.octet % 10) ∷ []) ∷ []). p ∙ ap (λ (d : List ℕ). c.args.name.now ++ d ∷ []) (sym (three_digits c.args.octet c.if-octet-lt100.false (omega (arith, c.ranges.octet.fits))))) c.push-else-octet-lt100.ensures.ok

pub returns-else-octet-lt100-clause-room : goal.returns-else-octet-lt100-clause-room
returns-else-octet-lt100-clause-room c =
    on_ok_weaker c.push-else-octet-lt100.result (λ (p : c.push-else-octet-lt100.new.self ≡ c.args.name.now ++ ((48 + c.args.octet / 100) ∷ (48 + c.args.octet / 10 % 10) ∷ (48 + c.args.octet % 10) ∷ []) ∷ []). omega (arith, longer c.args.name.now c.push-else-octet-lt100.new.self ((48 + c.args.octet / 100) ∷ (48 + c.args.octet / 10 % 10) ∷ (48 + c.args.octet % 10) ∷ []) p)) c.push-else-octet-lt100.ensures.ok

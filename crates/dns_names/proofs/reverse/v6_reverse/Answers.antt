use Rattle.std.proofs.Common.{◌≡◌, ℕ, suc, ◌+◌, ◌-◌, ◌++◌, ap, ◌∙◌, arith}
use Rattle.dns_names.specs.Name.{wire_length}
use Rattle.dns_names.specs.ReverseNames.{nibbles, ip6_arpa}
use Rattle.dns_names.proofs.ReverseWalks.{no_nibble, next_nibble, all_nibbles, longer}
use Rattle.dns_names.proofs.reverse.v6_reverse.Goals as goal

pub loop-count-init : goal.loop-count-init
loop-count-init c = record { value = no_nibble c.in_ok-name.name c.args.addr c.in_ok-name.ensures; size = ap wire_length c.in_ok-name.ensures }

pub loop-count-preserved : goal.loop-count-preserved
loop-count-preserved c =
    let left : suc (32 - (c.loop-count.count + 1)) ≡ 32 - c.loop-count.count = omega (arith, c.loop-count-test.true) in
    record {
      value = next_nibble c.loop-count.name c.push.new.self (32 - (c.loop-count.count + 1)) c.loop-count.rest c.hex_glyph.result ip6_arpa c.in_ok-push.ensures.ok c.hex_glyph.ensures
          ∙ ap (λ (k : ℕ). c.loop-count.name ++ nibbles k c.loop-count.rest ip6_arpa) left ∙ c.loop-count.invariant.value;
      size = omega (arith, longer c.loop-count.name c.push.new.self _ c.in_ok-push.ensures.ok, c.loop-count.invariant.size);
    }

pub push-requires-3-clause-room : goal.push-requires-3-clause-room
push-requires-3-clause-room c =
    omega (arith, longer c.loop-count.name c.push-2.new.self _ c.in_ok-push-2.ensures.ok, c.loop-count.invariant.size, c.loop-count-test.false, c.loop-count.auto.count-end)

pub returns : goal.returns
returns c =
    all_nibbles c.loop-count.name c.push-2.new.self c.push-3.new.self c.loop-count.count c.loop-count.rest c.args.addr c.loop-count.invariant.value c.loop-count-test.false c.in_ok-push-2.ensures.ok
    c.in_ok-push-3.ensures.ok

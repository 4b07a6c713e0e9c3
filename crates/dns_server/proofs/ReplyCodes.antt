-- The RCODE in the bytes of a reply.
use Rattle.std.proofs.Common.{◌≡◌, ◌∙◌, ◌+◌, ◌*◌, ◌%◌, ℕ, Bool, refl, ap, arith}
use Rattle.std.specs.Prelude.{nat_eq}
use Rattle.dns_data.specs.Message.{MessageData}
use Rattle.dns_write.specs.Written.{bit, header, kept, truncated, untruncated, written}
use Rattle.chain_meaning.specs.Serving.{header_reply}
use Rattle.load_maker.specs.Summary.{has_code}

low_half : (a b c r : ℕ) → (128 * a + 32 * b + 16 * c + r) % 16 ≡ r % 16
low_half a b c r = omega arith

header_code : (m : MessageData) (code : ℕ) → has_code code (untruncated m) ≡ nat_eq (m.rcode % 16) code
unfolding untruncated header
header_code m code = ap (λ (n : ℕ). nat_eq n code) (low_half (bit m.ra) (bit m.ad) (bit m.cd) m.rcode)

truncated_code : (m : MessageData) (count : ℕ) → (truncated m count).rcode ≡ m.rcode
unfolding truncated
truncated_code m count = refl

-- a message has its own
pub written_code : (m : MessageData) (limit code : ℕ) → has_code code (written m limit) ≡ nat_eq (m.rcode % 16) code
unfolding written
written_code m limit code =
    header_code (truncated m (kept m limit)) code ∙ ap (λ (n : ℕ). nat_eq (n % 16) code) (truncated_code m (kept m limit))

-- and so has a header alone
pub alone_code : (id opcode : ℕ) (rd : Bool) (rcode code : ℕ) → has_code code (header_reply id opcode rd rcode) ≡ nat_eq (rcode % 16) code
unfolding header_reply
alone_code id opcode rd rcode code = refl

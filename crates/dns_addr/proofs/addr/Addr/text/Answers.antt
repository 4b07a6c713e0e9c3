use Rattle.std.proofs.Common.{◌≡◌, Some, ap, ◌∙◌}
use Rattle.std.proofs.lemmas.Result.{IfOk-weaker}
use Rattle.dns_addr.specs.AddrText.{addr_of, addr_text}
use Rattle.dns_addr.proofs.PrintedAddrs.{text_reads}
use Rattle.dns_addr.proofs.addr.Addr.text.Goals as goal

pub returns-clause-read : goal.returns-clause-read
returns-clause-read c =
    IfOk-weaker c.printed.result (λ t. t ≡ addr_text c.args.self.now) (λ t. addr_of t ≡ Some c.args.self.now)
    (λ t is. ap addr_of is ∙ text_reads c.args.self.now c.has_its_bits.ensures) c.printed.ensures

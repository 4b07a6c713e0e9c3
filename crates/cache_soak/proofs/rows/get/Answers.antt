use Rattle.std.proofs.Common.{⊎_elim, ap}
use Rattle.cache_shards.specs.Seats.{views_of}
use Rattle.cache_soak.specs.Shares.{parts_of, totals_of}
use Rattle.cache_soak.proofs.rows.get.Goals as goal

pub returns-in-NoMemory-clause-parts : goal.returns-in-NoMemory-clause-parts
returns-in-NoMemory-clause-parts g c = ⊎_elim
    (λ e. record { parts = ap (λ l. parts_of (views_of l)) e; totals = ap (λ l. totals_of (views_of l)) e })
    (λ a. record { parts = a.parts.0; totals = a.parts.1 })
    c.in-NoMemory.ensures.adds

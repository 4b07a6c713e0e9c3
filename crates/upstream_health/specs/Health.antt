-- What calls of a pool do. This server's own rule.
use Rattle.std.specs.Prelude.{◌≡◌, ◌+◌, ◌%◌, ◌^◌}
use Rattle.upstream_health.specs.declared.state.Health.{Health}
use Rattle.upstream_health.specs.declared.state.PoolAsk.{PoolAsk}
use Rattle.upstream_health.specs.declared.state.PoolAsk.TheVariants.{Draw, Report}
use Rattle.upstream_health.specs.declared.state.PoolTold.{PoolTold}
use Rattle.upstream_health.specs.declared.state.PoolTold.TheVariants.{Drew, Noted}
use Rattle.upstream_health.specs.Counts.{after_report, bits}

abbrev pub Steps : Health → PoolAsk → PoolTold → Health → Type 0
Steps x Draw r y =
    (r ≡ Drew (record { number = x.number; down = bits x.most x.fails.items }))
    × (y.number ≡ (x.number + 1) % 2 ^ 64) × (y.most ≡ x.most) × (y.fails.items ≡ x.fails.items)
Steps x (Report upstream agreed) r y =
    (r ≡ Noted) × (y.number ≡ x.number) × (y.most ≡ x.most)
    × (y.fails.items ≡ after_report x.most upstream agreed x.fails.items)

-- each call is allowed at each state
abbrev pub IsAllowed : Health → PoolAsk → Type 0
IsAllowed x c = Unit {0}

pub stays_allowed : (x : Health) (c : PoolAsk) (other : PoolAsk) (r : PoolTold) (y : Health)
    → IsAllowed x c → Steps x other r y → IsAllowed y c
stays_allowed x c other r y a h = tt

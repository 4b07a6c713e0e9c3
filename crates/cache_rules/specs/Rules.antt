-- What a directive `cache` says, as plain data.
use Rattle.std.specs.Prelude.{ℕ, Bool}

-- of one class of answers: whether it is kept, how many entries, and the longest and the shortest
-- lifetime in seconds
pub record ClassData : Type 0 where
  pub enabled : Bool
  pub capacity : ℕ
  pub most : ℕ
  pub least : ℕ

-- of all: how many seconds a failure is kept, and whether TTLs stay as they came
pub record SettingsData : Type 0 where
  pub success : ClassData
  pub denial : ClassData
  pub servfail : ℕ
  pub keepttl : Bool

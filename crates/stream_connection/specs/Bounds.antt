-- What a side allows its connections (RFC 7766, sections 6.2.2 and 6.2.3). Times are in
-- milliseconds. The numbers are this server's own.
use Rattle.std.specs.Prelude.{ℕ, ◌-◌, ◌/◌, Bool, nat_lt, if◌then◌else◌}
use Rattle.stream_connection.specs.declared.bounds.Bounds.{Bounds}

-- what the program allows
abbrev pub usual_bounds : Bounds
usual_bounds = record {
  connections = 1024;
  waiting = 262144;
  idle = 30000;
  idle_near = 5000;
  part = 10000;
}

-- how long a connection may be without a whole message while so many are open
abbrev pub idle_for : Bounds → ℕ → ℕ
idle_for bounds count =
    if nat_lt (bounds.connections - bounds.connections / 4) count then bounds.idle_near
    else bounds.idle

-- more than so long has passed; where the clock went back, none has
abbrev pub is_past : ℕ → ℕ → ℕ → Bool
is_past since limit now = nat_lt limit (now - since)

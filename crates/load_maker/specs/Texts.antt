-- The texts of a load. Bytes by number: 10 ends a line.
use Rattle.std.specs.Prelude.{ℕ, zero, suc, ◌/◌, ◌%◌, List, [], ◌∷◌, ◌++◌, codes}
use Rattle.std.specs.Fmt.{decimal}

-- a line with its end
abbrev pub ended : List ℕ → List ℕ
ended text = text ++ 10 ∷ []

-- the Corefile at the start
abbrev pub conf_text : List ℕ
conf_text =
    ended (codes "load.test:53 {") ++ ended (codes "    reload") ++ ended (codes "    cache")
    ++ ended (codes "    file /db.load") ++ ended (codes "}")

-- the Corefile as the look finds it
abbrev pub second_text : List ℕ
second_text = ended (codes "# second") ++ conf_text

-- a host: hK at 10.9.X.Y, with X the whole part of K by 256 and Y the rest
abbrev pub host_line : ℕ → List ℕ
host_line k =
    ended (codes "h" ++ decimal k ++ codes " IN A 10.9." ++ decimal (k / 256) ++ codes "."
    ++ decimal (k % 256))

-- the lines of the hosts below a number
abbrev pub hosts_below : ℕ → List ℕ
hosts_below zero = []
hosts_below (suc k) = hosts_below k ++ host_line k

-- what stands in front of the hosts
abbrev pub apex_text : List ℕ
apex_text =
    ended (codes "$TTL 300")
    ++ ended (codes "@ IN SOA ns.load.test. admin.load.test. 1 7200 3600 1209600 60")
    ++ ended (codes "@ IN NS ns.other.test.")

-- the zone load.test, with hosts 0 to 999
unfoldable pub zone_text : List ℕ
zone_text = apex_text ++ hosts_below 1000

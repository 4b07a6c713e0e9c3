-- The words and options of `forward`: upstreams, `except`, `force_tcp`, `policy` and `max_fails`.
-- This server's own rule, in the manner of CoreDNS.
use Rattle.std.specs.Prelude.{ℕ, nat_le, nat_lt, ◌&&◌, ◌||◌, Bool, true, false, not, List, [], ◌∷◌, codes}
use Rattle.std.specs.Prelude.{Option, Some, None, is_some, option_and_then, unwrap_or, if◌then◌else◌}
use Rattle.dns_data.specs.{is_within}
use Rattle.dns_data.specs.declared.directive.Directive.{Directive}
use Rattle.dns_data.specs.declared.directive.Line.{Line}
use Rattle.dns_data.specs.declared.message.Transport.{Transport}
use Rattle.dns_data.specs.declared.message.Transport.TheVariants as transport
use Rattle.numbers.specs.{number_of}
use Rattle.outside.specs.declared.datagram.Upstream.{Upstream}
use Rattle.plugin_api.specs.{is_word, option_in}
use Rattle.zone_words.specs.{is_in, word_zone, zones_of}
use Rattle.forward_plugin.specs.declared.options.Policy.{Policy}
use Rattle.forward_plugin.specs.declared.options.Policy.TheVariants as policy

-- what a plan was read from: the directive, and the upstreams that its words and their files name
pub record ForwardData : Type 0 where
  pub directive : Directive
  pub upstreams : List Upstream

-- the zone in which names are passed on
abbrev pub from_by : List (List ℕ) → List (List ℕ)
from_by [] = []
from_by (word ∷ words) = unwrap_or (word_zone word) []

-- the zones that the words of a line name
abbrev pub zones_by : Option (List (List ℕ)) → List (List (List ℕ))
zones_by None = []
zones_by (Some words) = unwrap_or (zones_of words) []

-- the zones in which names go on all the same
abbrev pub except_of : List Line → List (List (List ℕ))
except_of lines = zones_by (option_in (codes "except") lines)

-- whether upstreams are always asked over TCP
abbrev pub is_forced : List Line → Bool
is_forced lines = is_some (option_in (codes "force_tcp") lines)

-- the policy that a word names
abbrev pub policy_in : List ℕ → Option Policy
policy_in word =
    if is_word word (codes "random") then Some policy.Random
    else if is_word word (codes "round_robin") then Some policy.RoundRobin
    else if is_word word (codes "sequential") then Some policy.Sequential
    else None

-- the policy of a line; a random upstream without one
abbrev pub policy_by : Option (List (List ℕ)) → Policy
policy_by None = policy.Random
policy_by (Some []) = policy.Random
policy_by (Some (word ∷ words)) = unwrap_or (policy_in word) policy.Random

-- with which upstream queries begin
abbrev pub policy_of : List Line → Policy
policy_of lines = policy_by (option_in (codes "policy") lines)

-- the largest number that `max_fails` takes
abbrev pub fails_limit : ℕ
fails_limit = 1000000

-- a number that `max_fails` takes
abbrev pub if_fails : ℕ → Option ℕ
if_fails number = if nat_le number fails_limit then Some number else None

abbrev pub fails_in : List ℕ → Option ℕ
fails_in word = option_and_then if_fails (number_of 10 word)

-- the number of a line; 0 without one
abbrev pub fails_by : Option (List (List ℕ)) → ℕ
fails_by None = 0
fails_by (Some []) = 0
fails_by (Some (word ∷ words)) = unwrap_or (fails_in word) 0

-- as many failed tries in a row as leave an upstream out; 0: none is
abbrev pub fails_of : List Line → ℕ
fails_of lines = fails_by (option_in (codes "max_fails") lines)

-- whether upstreams begin in turn
abbrev pub is_round : Policy → Bool
is_round policy.Random = false
is_round policy.RoundRobin = true
is_round policy.Sequential = false

-- whether workers share a pool for the directive
abbrev pub is_pooled : ForwardData → Bool
is_pooled plan = is_round (policy_of plan.directive.body) || nat_lt 0 (fails_of plan.directive.body)

-- whether a directive is for this name
abbrev pub is_for : ForwardData → List (List ℕ) → Bool
is_for plan name =
    is_within name (from_by plan.directive.args) && not (is_in name (except_of plan.directive.body))

-- over what upstreams are asked
abbrev pub by_of : ForwardData → Transport → Transport
by_of plan by = if is_forced plan.directive.body then transport.Tcp else by

-- What the plans of `template`, `hosts`, `file` and `forward` say, by the words of their directives.
use Rattle.std.proofs.Common.{◌≡◌, ◌∙◌, ℕ, List, [], ◌∷◌, ◌++◌, ◌||◌, Option, Some, None, refl, ap, if◌then◌else◌}
use Rattle.std.specs.Prelude.{map, codes, nat_lt, not, ◌&&◌, ◌==◌, option_map, option_and_then, is_some}
use Rattle.std.specs.List.{flat_map}
use Rattle.dns_data.specs.{RecordData, is_within}
use Rattle.dns_data.specs.declared.directive.Line.{Line}
use Rattle.dns_data.specs.declared.kind.TheConstants as kinds
use Rattle.dns_data.specs.declared.message.Transport.{Transport}
use Rattle.dns_data.specs.declared.message.Transport.TheVariants as transport
use Rattle.dns_data.specs.declared.query.Query.{Query}
use Rattle.file_plugin.specs.Zones.{FileData, file_zones, served_of, served_with}
use Rattle.forward_plugin.specs.Options.{ForwardData, by_of, fails_by, fails_of, from_by, is_for, is_pooled, is_round, policy_by, policy_of, zones_by}
use Rattle.forward_plugin.specs.Forward.{draw_means, forward_means, plan_means, plan_turn, turn_means, turn_of}
use Rattle.hosts_plugin.specs.Hosts.{HostsData, address_said, address_say, answer_with as hosts_answer_with, address_records, hosts_say, listed_at, listed_for, name_said, name_say, next as hosts_next, plan_listings, plan_zones as hosts_zones, pointer_record, reply as hosts_reply, unknown}
use Rattle.hosts_plugin.specs.Listings.{file_listings}
use Rattle.hosts_plugin.specs.Options.{has_no_reverse, ttl_by, ttl_of}
use Rattle.hosts_plugin.specs.declared.listing.Listing.{Listing}
use Rattle.outside.specs.Meanings.{onward}
use Rattle.outside.specs.declared.mark.Mark.{Mark}
use Rattle.pattern.specs.Texts.{Finding}
use Rattle.plugin_api.specs.{PlanData}
use Rattle.record_text.specs.{record_spelt}
use Rattle.template_plugin.specs.Template.{Said, answer_in, answer_with, applies, default_ttl, found_by, found_said, no_match, piece_text, place_text, record_in, records_in, said_of, searched, section_in, template_say, with_additional, with_answer, with_authority, with_record}
use Rattle.template_plugin.specs.Words.{patterns_of, rcode_by, text_pieces, texts_of}
use Rattle.template_plugin.specs.declared.piece.Piece.{Piece}
use Rattle.template_plugin.specs.declared.piece.Piece.TheVariants as piece
use Rattle.template_plugin.specs.declared.piece.Place.{Place}
use Rattle.template_plugin.specs.declared.piece.Place.TheVariants as place
use Rattle.upstream_health.specs.declared.drawn.Drawn.{Drawn}
use Rattle.zone_words.specs.{is_in}
use Rattle.block_readings.specs.Readings.{bare, bare_line}
use Rattle.block_readings.specs.WordsLaws.{fallthrough_stays, listings_stay, option_stays, words_stay}

abbrev pub bare_plan : PlanData → PlanData
bare_plan plan = record { directive = bare plan.directive; zones = plan.zones }

abbrev pub bare_hosts : HostsData → HostsData
bare_hosts plan = record { directive = bare plan.directive; zones = plan.zones; text = plan.text }

abbrev pub bare_file : FileData → FileData
bare_file plan = record { directive = bare plan.directive; zones = plan.zones; text = plan.text }

abbrev pub bare_forward : ForwardData → ForwardData
bare_forward plan = record { directive = bare plan.directive; upstreams = plan.upstreams }

-- template
place_stays : (plan : PlanData) (q : Query) (found : Finding) (p : Place) → place_text (bare_plan plan) q found p ≡ place_text plan q found p
place_stays plan q found place.Name = refl
place_stays plan q found place.Zone = refl
place_stays plan q found place.Type = refl
place_stays plan q found place.Class = refl
place_stays plan q found place.Remote = refl
place_stays plan q found (place.Named name) = refl
place_stays plan q found (place.Number number) = refl

piece_stays : (plan : PlanData) (q : Query) (found : Finding) (p : Piece) → piece_text (bare_plan plan) q found p ≡ piece_text plan q found p
piece_stays plan q found (piece.Bytes bytes) = refl
piece_stays plan q found (piece.Place place) = place_stays plan q found place

record_stays : (plan : PlanData) (q : Query) (found : Finding) (text : List ℕ) → record_in (bare_plan plan) q found text ≡ record_in plan q found text
record_stays plan q found text = λ i. record_spelt (flat_map (λ p. piece_stays plan q found p i) (text_pieces text)) [] default_ttl

records_stay : (plan : PlanData) (q : Query) (found : Finding) (texts : List (List ℕ)) → records_in (bare_plan plan) q found texts ≡ records_in plan q found texts
records_stay plan q found [] = refl
records_stay plan q found (text ∷ texts) = λ i. option_and_then (with_record (records_stay plan q found texts i)) (record_stays plan q found text i)

section_stays : (plan : PlanData) (q : Query) (found : Finding) (section : List ℕ) → section_in (bare_plan plan) q found section ≡ section_in plan q found section
section_stays plan q found section =
    ap (records_in (bare_plan plan) q found) (words_stay section plan.directive.body)
    ∙ records_stay plan q found (texts_of section plan.directive.body)

additional_stays : (plan : PlanData) (answer authority additional : List RecordData) → with_additional (bare_plan plan) answer authority additional ≡ with_additional plan answer authority additional
additional_stays plan answer authority additional = λ i. answer_with (rcode_by (words_stay (codes "rcode") plan.directive.body i)) answer authority additional

authority_stays : (plan : PlanData) (q : Query) (found : Finding) (answer authority : List RecordData) → with_authority (bare_plan plan) q found answer authority ≡ with_authority plan q found answer authority
authority_stays plan q found answer authority = λ i.
    option_map (λ additional. additional_stays plan answer authority additional i) (section_stays plan q found (codes "additional") i)

with_answer_stays : (plan : PlanData) (q : Query) (found : Finding) (answer : List RecordData) → with_answer (bare_plan plan) q found answer ≡ with_answer plan q found answer
with_answer_stays plan q found answer = λ i.
    option_and_then (λ authority. authority_stays plan q found answer authority i) (section_stays plan q found (codes "authority") i)

answer_stays : (plan : PlanData) (q : Query) (found : Finding) → answer_in (bare_plan plan) q found ≡ answer_in plan q found
answer_stays plan q found = λ i.
    option_and_then (λ answer. with_answer_stays plan q found answer i) (section_stays plan q found (codes "answer") i)

found_stays : (plan : PlanData) (q : Query) (others : Said) (o : Option Finding) → found_said (bare_plan plan) q others o ≡ found_said plan q others o
found_stays plan q others None = λ i. if is_in q.name (fallthrough_stays plan.directive.body i) then others else no_match
found_stays plan q others (Some found) = ap said_of (answer_stays plan q found)

pub template_stays : (plans : List PlanData) (q : Query) → template_say (map bare_plan plans) q ≡ template_say plans q
unfolding template_say
template_stays [] q = refl
template_stays (plan ∷ plans) q =
    (λ i. if applies plan q
    then found_said (bare_plan plan) q (template_stays plans q i) (found_by (words_stay (codes "match") plan.directive.body i) (searched q.name))
    else template_stays plans q i)
    ∙ (λ i. if applies plan q
    then found_stays plan q (template_say plans q) (found_by (patterns_of plan.directive.body) (searched q.name)) i
    else template_say plans q)

-- hosts
ttl_stays : (lines : List Line) → ttl_of (map bare_line lines) ≡ ttl_of lines
ttl_stays lines = ap ttl_by (option_stays (codes "ttl") lines)

name_stays : (plan : HostsData) (q : Query) (listings : List Listing) → name_said (bare_hosts plan) q listings ≡ name_said plan q listings
name_stays plan q [] = λ i. if is_in q.name (fallthrough_stays plan.directive.body i) then hosts_next else unknown
name_stays plan q (first ∷ others) = λ i. hosts_reply (hosts_answer_with (address_records q (ttl_stays plan.directive.body i) (first ∷ others)))

address_stays : (plan : HostsData) (q : Query) (listings : List Listing) → address_said (bare_hosts plan) q listings ≡ address_said plan q listings
address_stays plan q [] = refl
address_stays plan q (first ∷ others) = λ i.
    hosts_reply (hosts_answer_with (map (pointer_record q.name (ttl_stays plan.directive.body i)) (first ∷ others)))

plan_listings_stay : (plan : HostsData) → plan_listings (bare_hosts plan) ≡ plan_listings plan
plan_listings_stay plan = ap (λ listings. file_listings plan.text ++ listings) (listings_stay plan.directive.body)

name_say_stays : (plan : HostsData) (q : Query) → name_say (bare_hosts plan) q ≡ name_say plan q
name_say_stays plan q =
    (λ i. name_said (bare_hosts plan) q (listed_for q.name (plan_listings_stay plan i)))
    ∙ name_stays plan q (listed_for q.name (plan_listings plan))

address_say_stays : (plan : HostsData) (q : Query) → address_say (bare_hosts plan) q ≡ address_say plan q
address_say_stays plan q =
    (λ i. if is_some (option_stays (codes "no_reverse") plan.directive.body i) then hosts_next
    else address_said (bare_hosts plan) q (listed_at q.name (plan_listings_stay plan i)))
    ∙ (λ i. if has_no_reverse plan.directive.body then hosts_next
    else address_stays plan q (listed_at q.name (plan_listings plan)) i)

pub hosts_stays : (plan : HostsData) (q : Query) → hosts_say (bare_hosts plan) q ≡ hosts_say plan q
unfolding hosts_say
hosts_stays plan q = λ i.
    if q.kind == kinds.PTR then address_say_stays plan q i
    else if is_in q.name (hosts_zones plan) then name_say_stays plan q i
    else hosts_next

-- file
zones_stay : (plan : FileData) → file_zones (bare_file plan) ≡ file_zones plan
unfolding file_zones
zones_stay plan = refl

pub served_stays : (plan : FileData) → served_of (bare_file plan) ≡ served_of plan
served_stays plan = λ i. map (served_with (fallthrough_stays plan.directive.body i)) (zones_stay plan i)

-- forward
policy_stays : (lines : List Line) → policy_of (map bare_line lines) ≡ policy_of lines
policy_stays lines = ap policy_by (option_stays (codes "policy") lines)

fails_stay : (lines : List Line) → fails_of (map bare_line lines) ≡ fails_of lines
fails_stay lines = ap fails_by (option_stays (codes "max_fails") lines)

pub pooled_stays : (plan : ForwardData) → is_pooled (bare_forward plan) ≡ is_pooled plan
pooled_stays plan = λ i. is_round (policy_stays plan.directive.body i) || nat_lt 0 (fails_stay plan.directive.body i)

by_stays : (plan : ForwardData) (by : Transport) → by_of (bare_forward plan) by ≡ by_of plan by
by_stays plan by = λ i. if is_some (option_stays (codes "force_tcp") plan.directive.body i) then transport.Tcp else by

for_stays : (plan : ForwardData) (name : List (List ℕ)) → is_for (bare_forward plan) name ≡ is_for plan name
for_stays plan name = λ i.
    is_within name (from_by plan.directive.args) && not (is_in name (zones_by (option_stays (codes "except") plan.directive.body i)))

turn_stays : (plan : ForwardData) (drawn : Drawn) → plan_turn (bare_forward plan) drawn ≡ plan_turn plan drawn
turn_stays plan drawn = λ i. turn_of (policy_stays plan.directive.body i) (fails_stay plan.directive.body i) plan.upstreams drawn

plan_stays : (plan : ForwardData) (q : Query) (marks : List Mark) → plan_means (bare_forward plan) q marks ≡ plan_means plan q marks
unfolding plan_means
plan_stays plan q marks = λ i.
    onward (draw_means (pooled_stays plan i) marks) (λ drawn left.
    turn_means (by_stays plan q.by i) q (pooled_stays plan i) plan.upstreams (turn_stays plan drawn i) left)

pub forward_stays : (plans : List ForwardData) (q : Query) (marks : List Mark) → forward_means (map bare_forward plans) q marks ≡ forward_means plans q marks
unfolding forward_means
forward_stays [] q marks = refl
forward_stays (plan ∷ plans) q marks = λ i.
    if for_stays plan q.name i then plan_stays plan q marks i else forward_stays plans q marks i

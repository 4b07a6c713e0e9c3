-- An index of blocks: what it holds after a key more.
use Rattle.std.proofs.Common.{◌≡◌, ℕ, zero, suc, ◌<◌, Bool, true, false, cond, List, [], ◌∷◌, ◌++◌, length, Option, Some, None, refl, sym, ap, subst, ◌∙◌, arith}
use Rattle.std.specs.Prelude.{◌==◌, ◌&&◌, ◌||◌, slice_get, slice_set}
use Rattle.std.specs.List.{find, list_any, position_from}
use Rattle.std.specs.Option.{option_and_then, option_map, option_or}
use Rattle.std.proofs.lemmas.Bool.Decides.{same_from_decides}
use Rattle.std.proofs.lemmas.List.Folds.{find-append, list_any-append}
use Rattle.std.proofs.lemmas.Option.{slice_get_within}
use Rattle.dns_names.specs.Name.{is_same, lowered}
use Rattle.dns_names.specs.WithinLaws.{same_is}
use Rattle.dns_data.specs.declared.block.Block.{Block}
use Rattle.dns_data.specs.declared.block.BlockKey.{BlockKey}
use Rattle.name_table.specs.NumberLaws.{front, last, named_as, named_by, set_other, set_same}
use Rattle.name_table.specs.Table.{IsMissing, IsNamed, IsNumberOf}
use Rattle.plugin_api.specs.Index.{AddsKeys, IndexData, IsIndexOf, block_by, block_in, service_on}
use Rattle.plugin_api.specs.Picking.{block_of, has_key, is_key, longest_of}
use Rattle.plugin_api.specs.PositionLaws.{IsFirst, IsFound, found, position_more}
use Rattle.plugin_api.specs.declared.services.Service.{Service}

same_sym : (a b : List (List ℕ)) → is_same a b ≡ is_same b a
same_sym a b = same_from_decides (is_same a b) (is_same b a) (same_is a b) ((λ t. sym ((same_is b a).0 t)), (λ e. (same_is b a).1 (sym e)))

-- the first of the same names is named so
first_named : (zones : List (List (List ℕ))) (key : List (List ℕ)) (j : ℕ) (f : IsFirst (is_same key) 0 zones j) → IsNamed zones f.index key
first_named zones key j f = ap (option_map lowered) f.stands ∙ ap Some (sym ((same_is key f.item).0 f.passes))

number_by : (zones : List (List (List ℕ))) (key : List (List ℕ)) (i : ℕ) (o : Option ℕ) → IsNumberOf zones key i → IsFound (is_same key) 0 zones o → o ≡ Some i
number_by zones key i None n h =
    let there = named_by (slice_get zones i) (lowered key) n.is in
    absurd (h i there.name there.is ((same_is key there.name).1 (sym there.same)))
number_by zones key i (Some j) n h = ap Some (omega (arith, h.at_is, n.only h.index (first_named zones key j h)))

pub number_is : (zones : List (List (List ℕ))) (key : List (List ℕ)) (i : ℕ) → IsNumberOf zones key i → position_from (is_same key) 0 zones ≡ Some i
number_is zones key i n = number_by zones key i (position_from (is_same key) 0 zones) n (found (is_same key) 0 zones)

missing_by : (zones : List (List (List ℕ))) (key : List (List ℕ)) (o : Option ℕ) → IsMissing zones key → IsFound (is_same key) 0 zones o → o ≡ None
missing_by zones key None m h = refl
missing_by zones key (Some j) m h = absurd (m h.index (first_named zones key j h))

pub number_missing : (zones : List (List (List ℕ))) (key : List (List ℕ)) → IsMissing zones key → position_from (is_same key) 0 zones ≡ None
number_missing zones key m = missing_by zones key (position_from (is_same key) 0 zones) m (found (is_same key) 0 zones)

-- what a search among zones leads to
pub block_is : (index : IndexData) (port : ℕ) (zone : List (List ℕ)) (number : ℕ) (services : List Service) → IsNumberOf index.zones zone number → slice_get index.services number ≡ Some services
    → block_in index port zone ≡ service_on port services
unfolding block_in
block_is index port zone number services n e = rw (number_is index.zones zone number n, e) refl

pub block_none : (index : IndexData) (port : ℕ) (zone : List (List ℕ)) → IsMissing index.zones zone → block_in index port zone ≡ None
unfolding block_in
block_none index port zone m = rw (number_missing index.zones zone m) refl

map_or : (f : Service → ℕ) (a b : Option Service) → option_map f (option_or a b) ≡ option_or (option_map f a) (option_map f b)
map_or f None b = refl
map_or f (Some s) b = refl

map_cond : (b : Bool) (s : Service) → option_map (λ (s : Service). s.block) (cond b (Some s) None) ≡ cond b (Some s.block) None
map_cond true s = refl
map_cond false s = refl

-- a service more, behind what there was
service_push : (port : ℕ) (old : List Service) (s : Service) → service_on port (old ++ s ∷ []) ≡ option_or (service_on port old) (cond (s.port == port) (Some s.block) None)
unfolding service_on
service_push port old s =
    let f = λ (s : Service). s.block in
    ap (option_map f) (find-append (λ (s : Service). s.port == port) old (s ∷ [])) ∙ map_or f (find (λ (s : Service). s.port == port) old) (cond (s.port == port) (Some s) None)
    ∙ ap (option_or (option_map f (find (λ (s : Service). s.port == port) old))) (map_cond (s.port == port) s)

service_one : (port : ℕ) (s : Service) → service_on port (s ∷ []) ≡ cond (s.port == port) (Some s.block) None
unfolding service_on
service_one port s = map_cond (s.port == port) s

or_none : (o : Option ℕ) → o ≡ option_or o None
or_none None = refl
or_none (Some x) = refl

-- a key of another zone adds nothing there
other_zone : (key : BlockKey) (block port : ℕ) (zone : List (List ℕ)) → is_same key.zone zone ≡ false → block_by (key ∷ []) block port zone ≡ None
unfolding block_by is_key
other_zone key block port zone e = rw e (by (key.port == port))
  where
    by : (b : Bool) → cond ((b && false) || false) (Some block) None ≡ None
    by true = refl
    by false = refl

-- and one of this zone its block, on its port
this_zone : (key : BlockKey) (block port : ℕ) (zone : List (List ℕ)) → is_same key.zone zone ≡ true → block_by (key ∷ []) block port zone ≡ cond (key.port == port) (Some block) None
unfolding block_by is_key
this_zone key block port zone e = rw e (by (key.port == port))
  where
    by : (b : Bool) → cond ((b && true) || false) (Some block) None ≡ cond b (Some block) None
    by true = refl
    by false = refl

abbrev service_of : BlockKey → ℕ → Service
service_of key block = record { port = key.port; block = block }

-- the key's zone is there already
there_same : (zones : List (List (List ℕ))) (services : List (List Service)) (number : ℕ) (old : List Service) (key : BlockKey) (block port : ℕ) (zone : List (List ℕ)) (j : ℕ)
    → number < length services → slice_get services number ≡ Some old → is_same key.zone zone ≡ true → j ≡ number
    → option_and_then (service_on port) (slice_get (slice_set services number (old ++ service_of key block ∷ [])) j)
    ≡ option_or (option_and_then (service_on port) (slice_get services j)) (block_by (key ∷ []) block port zone)
there_same zones services number old key block port zone j l e same at =
    rw (at, set_same services number (old ++ service_of key block ∷ []) l, e, this_zone key block port zone same) (service_push port old (service_of key block))

there_other : (services : List (List Service)) (number : ℕ) (new : List Service) (key : BlockKey) (block port : ℕ) (zone : List (List ℕ)) (j : ℕ) → is_same key.zone zone ≡ false → (number ≡ j → ⊥)
    → option_and_then (service_on port) (slice_get (slice_set services number new) j) ≡ option_or (option_and_then (service_on port) (slice_get services j)) (block_by (key ∷ []) block port zone)
there_other services number new key block port zone j other n =
    rw (set_other services number j new n, other_zone key block port zone other) (or_none (option_and_then (service_on port) (slice_get services j)))

there_by : (zones : List (List (List ℕ))) (services : List (List Service)) (number : ℕ) (old : List Service) (key : BlockKey) (block port : ℕ) (zone : List (List ℕ)) (o : Option ℕ) (b : Bool)
    → IsNumberOf zones key.zone number → number < length services → slice_get services number ≡ Some old → IsFound (is_same zone) 0 zones o → is_same key.zone zone ≡ b
    → option_and_then (λ (n : ℕ). option_and_then (service_on port) (slice_get (slice_set services number (old ++ service_of key block ∷ [])) n)) o
    ≡ option_or (option_and_then (λ (n : ℕ). option_and_then (service_on port) (slice_get services n)) o) (block_by (key ∷ []) block port zone)
there_by zones services number old key block port zone None true n l e h same =
    let as_zone = named_as zones number key.zone zone n.is ((same_is key.zone zone).0 same) in
    let there = named_by (slice_get zones number) (lowered zone) as_zone in
    absurd (h number there.name there.is ((same_is zone there.name).1 (sym there.same)))
there_by zones services number old key block port zone None false n l e h other = sym (other_zone key block port zone other)
there_by zones services number old key block port zone (Some j) true n l e h same =
    let as_key = named_as zones h.index zone key.zone (first_named zones zone j h) (sym ((same_is key.zone zone).0 same)) in
    there_same zones services number old key block port zone j l e same (omega (arith, h.at_is, n.only h.index as_key))
there_by zones services number old key block port zone (Some j) false n l e h other =
    there_other services number (old ++ service_of key block ∷ []) key block port zone j other
    (λ at. let index : number ≡ h.index = omega (arith, at, h.at_is) in
    let here : IsNamed zones h.index key.zone = subst (λ (k : ℕ). IsNamed zones k key.zone) index n.is in
    let two : Some (lowered zone) ≡ Some (lowered key.zone) = sym (first_named zones zone j h) ∙ here in
    let same : lowered zone ≡ lowered key.zone = cc in
    let yes : is_same key.zone zone ≡ true = (same_is key.zone zone).1 (sym same) in
    absurd cc)

abbrev index_of : List (List (List ℕ)) → List (List Service) → IndexData
index_of zones services = record { zones = zones; services = services }

there_adds : (zones : List (List (List ℕ))) (services : List (List Service)) (number : ℕ) (old : List Service) (key : BlockKey) (block : ℕ) → IsNumberOf zones key.zone number → number < length services
    → slice_get services number ≡ Some old → AddsKeys (index_of zones services) (index_of zones (slice_set services number (old ++ service_of key block ∷ []))) (key ∷ []) block
unfolding block_in
there_adds zones services number old key block n l e = record {
  adds = λ port zone. there_by zones services number old key block port zone (position_from (is_same zone) 0 zones) (is_same key.zone zone) n l e (found (is_same zone) 0 zones) refl;
}

-- one more service of a zone that is there
pub there : (zones : List (List (List ℕ))) (services after : List (List Service)) (before : IndexData) (number : ℕ) (old : List Service) (key : BlockKey) (block : ℕ)
    → index_of zones services ≡ before → IsNumberOf zones key.zone number → number < length services → slice_get services number ≡ Some old
    → after ≡ slice_set services number (old ++ service_of key block ∷ []) → AddsKeys before (index_of zones after) (key ∷ []) block
there zones services after before number old key block is n l e set = rw (sym is, set) (there_adds zones services number old key block n l e)

-- the key's zone is new
new_by : (zones : List (List (List ℕ))) (services : List (List Service)) (key : BlockKey) (block port : ℕ) (zone : List (List ℕ)) (o : Option ℕ) (b : Bool)
    → IsMissing zones key.zone → length zones ≡ length services → IsFound (is_same zone) 0 zones o → is_same key.zone zone ≡ b
    → option_and_then (λ (n : ℕ). option_and_then (service_on port) (slice_get (services ++ (service_of key block ∷ []) ∷ []) n)) (option_or o (cond b (Some (length zones)) None))
    ≡ option_or (option_and_then (λ (n : ℕ). option_and_then (service_on port) (slice_get services n)) o) (block_by (key ∷ []) block port zone)
new_by zones services key block port zone None true m long h same =
    rw (long, last services (service_of key block ∷ []), this_zone key block port zone same) (service_one port (service_of key block))
new_by zones services key block port zone None false m long h other = sym (other_zone key block port zone other)
new_by zones services key block port zone (Some j) true m long h same =
    absurd (m h.index (named_as zones h.index zone key.zone (first_named zones zone j h) (sym ((same_is key.zone zone).0 same))))
new_by zones services key block port zone (Some j) false m long h other =
    let inside = slice_get_within zones h.index h.item h.stands in
    rw (front services (service_of key block ∷ []) j (omega (arith, inside, h.at_is, long)), other_zone key block port zone other) (or_none (option_and_then (service_on port) (slice_get services j)))

new_adds : (zones : List (List (List ℕ))) (services : List (List Service)) (key : BlockKey) (block : ℕ) → IsMissing zones key.zone → length zones ≡ length services
    → AddsKeys (index_of zones services) (index_of (zones ++ key.zone ∷ []) (services ++ (service_of key block ∷ []) ∷ [])) (key ∷ []) block
unfolding block_in
new_adds zones services key block m long = record {
  adds = λ port zone. rw (position_more (is_same zone) zones key.zone, same_sym zone key.zone)
      (new_by zones services key block port zone (position_from (is_same zone) 0 zones) (is_same key.zone zone) m long (found (is_same zone) 0 zones) refl);
}

-- one more zone
pub new_zone : (zones zones_after : List (List (List ℕ))) (services services_after : List (List Service)) (before : IndexData) (key : BlockKey) (block : ℕ)
    → index_of zones services ≡ before → IsMissing zones key.zone → length zones ≡ length services → zones_after ≡ zones ++ key.zone ∷ []
    → services_after ≡ services ++ (service_of key block ∷ []) ∷ [] → AddsKeys before (index_of zones_after services_after) (key ∷ []) block
new_zone zones zones_after services services_after before key block is m long z s = rw (sym is, z, s) (new_adds zones services key block m long)

-- no keys
pub adds_none : (index : IndexData) (block : ℕ) → AddsKeys index index [] block
unfolding block_by
adds_none index block = record { adds = λ port zone. or_none (block_in index port zone) }

both_by : (o : Option ℕ) (a b : Bool) (block : ℕ) → option_or (option_or o (cond a (Some block) None)) (cond (b || false) (Some block) None) ≡ option_or o (cond (a || (b || false)) (Some block) None)
both_by (Some x) a b block = refl
both_by None true b block = refl
both_by None false b block = refl

-- a key behind others
pub adds_more : (first second third : IndexData) (keys : List BlockKey) (key : BlockKey) (block : ℕ) → AddsKeys first second keys block → AddsKeys second third (key ∷ []) block → AddsKeys first third (keys ++ key ∷ []) block
unfolding block_by
adds_more first second third keys key block a b = record {
  adds = λ port zone. b.adds port zone ∙ ap (λ (o : Option ℕ). option_or o (cond (is_key port zone key || false) (Some block) None)) (a.adds port zone)
      ∙ both_by (block_in first port zone) (list_any (is_key port zone) keys) (is_key port zone key) block
      ∙ ap (λ (t : Bool). option_or (block_in first port zone) (cond t (Some block) None)) (sym (list_any-append (is_key port zone) keys (key ∷ [])));
}

-- an index of no blocks
pub index_none : (index : IndexData) → index.zones ≡ [] → IsIndexOf index []
unfolding block_in block_of
index_none index e = record { agrees = λ port zone. rw e refl }

-- a block behind others
pub index_more : (before after : IndexData) (blocks : List Block) (block : Block) (number : ℕ) → IsIndexOf before blocks → AddsKeys before after block.keys number → length blocks ≡ number → IsIndexOf after (blocks ++ block ∷ [])
unfolding block_of has_key block_by
index_more before after blocks block number is a long = record {
  agrees = λ port zone. a.adds port zone ∙ ap (λ (o : Option ℕ). option_or o (cond (list_any (is_key port zone) block.keys) (Some number) None)) (is.agrees port zone)
      ∙ ap (λ (n : ℕ). option_or (block_of blocks port zone) (cond (list_any (is_key port zone) block.keys) (Some n) None)) (sym long)
      ∙ sym (position_more (has_key port zone) blocks block);
}

-- a table of one name that has the root
pub root_alone : (zones : List (List (List ℕ))) (i : ℕ) → length zones ≡ 1 → IsNamed zones i [] → zones ≡ [] ∷ []
root_alone [] i one n = absurd (omega (arith, one))
root_alone ([] ∷ []) i one n = refl
root_alone ((label ∷ above) ∷ []) zero one n = absurd cc
root_alone (zone ∷ []) (suc i) one n = absurd cc
root_alone (zone ∷ other ∷ zones) i one n = absurd (omega (arith, one))

named_first : (i : ℕ) (key : List (List ℕ)) → IsNamed ([] ∷ []) i key → key ≡ []
named_first zero [] n = refl
named_first zero (label ∷ above) n = absurd cc
named_first (suc i) key n = absurd cc

first_only : (i : ℕ) → IsNamed ([] ∷ []) i [] → i ≡ 0
first_only zero n = refl
first_only (suc i) n = absurd cc

-- where the root is the one zone, its services serve each name
pub root_serves : (index : IndexData) (port : ℕ) (services : List Service) → index.zones ≡ [] ∷ [] → slice_get index.services 0 ≡ Some services → (name : List (List ℕ)) → longest_of (block_in index port) name ≡ service_on port services
unfolding longest_of
root_serves index port services z s [] =
    let number : IsNumberOf index.zones [] 0 = subst (λ zones. IsNumberOf zones [] 0) (sym z) (record { is = refl; only = first_only }) in
    block_is index port [] 0 services number s
root_serves index port services z s (label ∷ above) =
    let missing : IsMissing index.zones (label ∷ above) = subst (λ zones. IsMissing zones (label ∷ above)) (sym z) (λ i n. let e = named_first i (label ∷ above) n in absurd cc) in
    rw (block_none index port (label ∷ above) missing) (root_serves index port services z s above)

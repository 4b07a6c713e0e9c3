-- The calls that a turn of a load makes, and what the turn comes to by what those found.
use Rattle.std.proofs.Common.{◌≡◌, ◌∙◌, ◌⊎◌, ◌<◌, ℕ, zero, suc, Bool, true, false, List, [], ◌∷◌, ◌++◌, map, Option, Some, None, append-nil, refl, sym, ap, subst, inl, inr, arith, if◌then◌else◌}
use Rattle.std.proofs.lemmas.Bool.{and_from, eq-eqb}
use Rattle.std.specs.Prelude.{filter, slice_get, ◌==◌, ◌&&◌}
use Rattle.std.specs.List.{AllByRecursion}
use Rattle.cache_rules.specs.{cache_zones, key_of}
use Rattle.corefile_blocks.specs.declared.bundle.Bundle.{Bundle}
use Rattle.dns_data.specs.{lowered}
use Rattle.dns_data.specs.declared.block.Block.{Block}
use Rattle.dns_data.specs.declared.file.FileText.{FileText}
use Rattle.dns_data.specs.declared.query.Query.{Query}
use Rattle.dns_wire.specs.Asked.{asked_of}
use Rattle.dns_wire.specs.Spells.{SpellsQuery}
use Rattle.dns_wire.specs.declared.asked.Asked.{Asked}
use Rattle.message_decoding.specs.Decoding.{decode_query}
use Rattle.message_decoding.specs.Laws.{decodes_queries, one_message}
use Rattle.one_history.specs.Calls.{Call, is_at}
use Rattle.one_history.specs.Runs.{SHARDS}
use Rattle.one_history.specs.Logs.{Place}
use Rattle.one_history.specs.Shared.{cache_calls_in, call_at, calls_in, is_of_cache}
use Rattle.outside.specs.{EntryData}
use Rattle.outside.specs.Keys.{shard_of}
use Rattle.outside.specs.Meanings.{Done}
use Rattle.outside.specs.declared.datagram.Datagram.{Datagram}
use Rattle.outside.specs.declared.entry.Key.{Key}
use Rattle.outside.specs.declared.mark.Mark.{Mark}
use Rattle.outside.specs.declared.mark.Mark.TheVariants as mark
use Rattle.plugin_api.specs.{PlanData, Sayings, picked}
use Rattle.file_plugin.specs.{FileData}
use Rattle.zone_words.specs.{is_in}
use Rattle.chain_meaning.specs.{AreCalls, Step, Terms, steps_of}
use Rattle.chain_meaning.specs.CallsByRun.{Pools, call_of, calls_by, chain_calls, number_in, numbered_mark, of_number, picked_calls, pool_part, shard_part, told_in, turn_calls}
use Rattle.chain_meaning.specs.Serving.{Decides, asked_decides, query_of}
use Rattle.chain_meaning.specs.Steps.{Answers, Cache, File}
use Rattle.chain_meaning.specs.declared.decision.Decision.{Decision}
use Rattle.load_maker.specs.Texts.{conf_text}
use Rattle.dns_server.proofs.CachedFiles.{IsHitTurn, IsMissTurn, PutsOne}
use Rattle.dns_server.proofs.Hits.{IsJustHit, IsJustPut}
use Rattle.dns_server.proofs.LoadBlocks.{cache_of, files_of, load_block, steps_are}
use Rattle.dns_server.specs.LoadCounts.{code_in, datagram_code, load_bundle}
use Rattle.dns_server.proofs.LoadTurns.{HasBlock, IsCachedTurn, IsForm, Just, TurnedTo, datagram_is, has_block, load_files, meant, put_just, said_code, same_Ok, turned}
use Rattle.dns_server.proofs.TurnCounts.{IsOfCache}

module _ (P : Mark → Type 0) where
  abbrev OfMark : Call Mark → Type 0
  OfMark c = P c.mark

  kept : (t : Bool) (m : Mark) (rest : List Mark) → P m → AllByRecursion P rest → AllByRecursion P (if t then m ∷ rest else rest)
  kept true m rest here all = (here, all)
  kept false m rest here all = all

  all_filtered : (keep : Mark → Bool) (marks : List Mark) → AllByRecursion P marks → AllByRecursion P (filter keep marks)
  all_filtered keep [] all = tt
  all_filtered keep (m ∷ marks) all = kept (keep m) m (filter keep marks) all.0 (all_filtered keep marks all.1)

  all_mapped : (serial : ℕ) (at : ℕ → Place) (k : ℕ) (marks : List Mark) → AllByRecursion P marks → AllByRecursion OfMark (map (call_of serial at) (map (numbered_mark k) marks))
  all_mapped serial at k [] all = tt
  all_mapped serial at k (m ∷ marks) all = (all.0, all_mapped serial at k marks all.1)

  all_numbered : (serial : ℕ) (at : ℕ → Place) (o : Option ℕ) (marks : List Mark) → AllByRecursion P marks → AllByRecursion OfMark (map (call_of serial at) (of_number o marks))
  all_numbered serial at None marks all = tt
  all_numbered serial at (Some k) marks all = all_mapped serial at k marks all

  all_joined : (xs ys : List (Call Mark)) → AllByRecursion OfMark xs → AllByRecursion OfMark ys → AllByRecursion OfMark (xs ++ ys)
  all_joined [] ys a b = b
  all_joined (x ∷ xs) ys a b = (a.0, all_joined xs ys a.1 b)

  chain_all : (plan : PlanData) (plans : List FileData) (serial block : ℕ) (q : Query) (marks : List Mark) → AllByRecursion P marks → AllByRecursion OfMark (chain_calls (Cache plan ∷ Answers (File plans) ∷ []) serial block q marks)
  chain_all plan plans serial block q marks all =
      all_joined (map (call_of serial (shard_part block)) (of_number (if is_in q.name (cache_zones plan) then Some (shard_of (key_of q)) else None) (cache_calls_in marks))) _
      (all_numbered serial (shard_part block) (if is_in q.name (cache_zones plan) then Some (shard_of (key_of q)) else None) (cache_calls_in marks) (all_filtered is_of_cache marks all))
      (all_numbered serial (pool_part block) (number_in Pools (Cache plan ∷ Answers (File plans) ∷ []) q) (told_in Pools marks) (all_filtered _ marks all))

  module _ (said : Sayings) (zone : List ℕ) (n serial : ℕ) (q : Query) (marks : List Mark) (all : AllByRecursion P marks) where
    abbrev steps : Block → List Step
    steps = steps_of said (load_files zone)

    block_all : (number : ℕ) → AllByRecursion OfMark (calls_by steps (load_block n ∷ []) serial q number (Some (load_block n)) marks)
    block_all number = subst (λ s. AllByRecursion OfMark (chain_calls s serial number q marks)) (sym (steps_are said (load_files zone) n)) (chain_all (cache_of n) (files_of (load_files zone) n) serial number q marks all)

    none_behind : (k : ℕ) → ◌≡◌ {A = Option Block} (slice_get [] k) None
    none_behind zero = refl
    none_behind (suc k) = refl

    picked_all : (o : Option ℕ) → AllByRecursion OfMark (picked_calls steps (load_block n ∷ []) serial q o marks)
    picked_all None = tt
    picked_all (Some zero) = block_all 0
    picked_all (Some (suc k)) = subst (λ b. AllByRecursion OfMark (calls_by steps (load_block n ∷ []) serial q (suc k) b marks)) (sym (none_behind k)) tt

    -- what holds of each mark of a turn holds of each of its calls
    pub turn_all : AllByRecursion OfMark (turn_calls steps (load_block n ∷ []) serial q marks)
    turn_all = picked_all (picked (load_block n ∷ []) q.local q.name)

-- the first call of a turn that had a hit
module _ (said : Sayings) (zone : List ℕ) (n serial : ℕ) (q : Query) (marks : List Mark) (v : Decision) (hit : IsHitTurn (key_of q) marks v) (picks : picked (load_block n ∷ []) q.local q.name ≡ Some 0) (within : is_in q.name (cache_zones (cache_of n)) ≡ true) where
  abbrev found_mark : Mark
  found_mark = mark.Looked (key_of q) hit.at (Some hit.entry)

  abbrev hit_call : Call Mark
  hit_call = call_at serial (shard_part 0 (shard_of (key_of q))) found_mark

  abbrev chain : List Step
  chain = Cache (cache_of n) ∷ Answers (File (files_of (load_files zone) n)) ∷ []

  abbrev pool_calls : List (Call Mark)
  pool_calls = map (call_of serial (pool_part 0)) (of_number (number_in Pools chain q) (told_in Pools marks))

  hit_calls : turn_calls (steps_of said (load_files zone)) (load_block n ∷ []) serial q marks ≡ hit_call ∷ pool_calls
  hit_calls =
      ap (λ o. picked_calls (steps_of said (load_files zone)) (load_block n ∷ []) serial q o marks) picks
      ∙ (ap (λ s. chain_calls s serial 0 q marks) (steps_are said (load_files zone) n)
      ∙ (ap (λ (t : Bool). map (call_of serial (shard_part 0)) (of_number (if t then Some (shard_of (key_of q)) else None) (cache_calls_in marks)) ++ pool_calls) within
      ∙ ap (λ (l : List Mark). map (call_of serial (shard_part 0)) (of_number (Some (shard_of (key_of q))) (cache_calls_in l)) ++ pool_calls) hit.marks_are))

  hit_at : is_at serial 0 (shard_of (key_of q)) hit_call ≡ true
  hit_at = and_from (serial == serial) ((0 == 0) && (shard_of (key_of q) == shard_of (key_of q))) (eq-eqb serial serial refl)
      (and_from (0 == 0) (shard_of (key_of q) == shard_of (key_of q)) refl (eq-eqb (shard_of (key_of q)) (shard_of (key_of q)) refl))

  pub found_just : (just : Key → EntryData → Type 0) → AllByRecursion (λ (c : Call Mark). is_at serial 0 (shard_of (key_of q)) c ≡ true → IsJustHit just c.mark) (turn_calls (steps_of said (load_files zone)) (load_block n ∷ []) serial q marks)
      → just (key_of q) hit.entry
  found_just just all = (subst (AllByRecursion (λ (c : Call Mark). is_at serial 0 (shard_of (key_of q)) c ≡ true → IsJustHit just c.mark)) hit_calls all).0 hit_at

low_shard : (key : Key) → shard_of key < SHARDS
low_shard key = omega arith

module _ (zone : List ℕ) where
  -- what calls at a serial found in a cache is just
  abbrev pub FindJust : ℕ → List (Call Mark) → Type 0
  FindJust serial calls = (shard : ℕ) → shard < SHARDS → AllByRecursion (λ (c : Call Mark). is_at serial 0 shard c ≡ true → IsJustHit (Just zone) c.mark) calls

  -- what a turn comes to which took these marks, made these calls, and answered this RCODE
  pub record ComesTo (serial : ℕ) (d : Datagram) (name : List (List ℕ)) (marks : List Mark) (calls : List (Call Mark)) (got : Option ℕ) : Type 0 where
    pub inner : AllByRecursion IsOfCache marks
    pub puts : lowered name ≡ name → AllByRecursion (λ (c : Call Mark). IsJustPut (Just zone) c.mark) calls
    pub code : lowered name ≡ name → FindJust serial calls → got ≡ datagram_code (load_bundle conf_text zone) d

  module _ (q : Query) (marks : List Mark) (v : Decision) where
    put_inner : (puts : List Mark) → (puts ≡ []) ⊎ PutsOne (key_of q) (said_code zone q) puts → AllByRecursion IsOfCache puts
    put_inner puts (inl none) = subst (AllByRecursion IsOfCache) (sym none) tt
    put_inner puts (inr one) = subst (AllByRecursion IsOfCache) (sym one.marks_are) (tt, tt)

    put_justly : lowered q.name ≡ q.name → (puts : List Mark) → (puts ≡ []) ⊎ PutsOne (key_of q) (said_code zone q) puts → AllByRecursion (IsJustPut (Just zone)) puts
    put_justly small puts (inl none) = subst (AllByRecursion (IsJustPut (Just zone))) (sym none) tt
    put_justly small puts (inr one) = subst (AllByRecursion (IsJustPut (Just zone))) (sym one.marks_are) (put_just zone q one.entry small one.has, tt)

    turn_inner : IsHitTurn (key_of q) marks v ⊎ IsMissTurn (key_of q) (said_code zone q) marks v → AllByRecursion IsOfCache marks
    turn_inner (inl hit) = subst (AllByRecursion IsOfCache) (sym hit.marks_are) (tt, (tt, tt))
    turn_inner (inr miss) = subst (AllByRecursion IsOfCache) (sym miss.marks_are) (tt, (tt, put_inner miss.puts miss.put))

    turn_puts : lowered q.name ≡ q.name → IsHitTurn (key_of q) marks v ⊎ IsMissTurn (key_of q) (said_code zone q) marks v → AllByRecursion (IsJustPut (Just zone)) marks
    turn_puts small (inl hit) = subst (AllByRecursion (IsJustPut (Just zone))) (sym hit.marks_are) (tt, (tt, tt))
    turn_puts small (inr miss) = subst (AllByRecursion (IsJustPut (Just zone))) (sym miss.marks_are) (tt, (tt, put_justly small miss.puts miss.put))

  no_calls : (q : Query) (marks : List Mark) (v : Decision) → IsHitTurn (key_of q) marks v → calls_in marks ≡ [] → ⊥
  no_calls q marks v hit none =
      let there : mark.Looked (key_of q) hit.at (Some hit.entry) ∷ [] ≡ [] = sym (ap calls_in hit.marks_are) ∙ none in
      absurd cc

  -- a datagram that is a query
  module _ (bundle : Bundle) (terms : Terms) (serial : ℕ) (d : Datagram) (marks : List Mark) (calls : List (Call Mark)) (port : terms.default_port ≡ 53) (form : IsForm zone bundle) (called : AreCalls bundle terms serial d marks calls) {P : Asked → Decision → Type 0} (decides : Decides bundle terms d marks P) where
    abbrev asked : Asked
    asked = decides.asked

    abbrev q : Query
    q = query_of d asked

    abbrev has : HasBlock zone bundle decides.blocks
    has = has_block zone bundle terms.default_port decides.blocks port form decides.accepted.read

    abbrev Calls : Type 0
    Calls = ((calls ≡ []) × (calls_in marks ≡ [])) ⊎ (calls ≡ turn_calls (steps_of terms.said (load_files zone)) (load_block has.line ∷ []) serial q marks)

    are_calls : AreCalls bundle terms serial d marks calls → Calls
    are_calls (inl none) = inl none
    are_calls (inr asks) =
        let blocks : asks.blocks ≡ load_block has.line ∷ [] = same_Ok asks.blocks decides.blocks (sym asks.accepted.read ∙ decides.accepted.read) ∙ has.blocks_are in
        let message = one_message SpellsQuery decode_query decodes_queries d.bytes decides.queries.message asks.queries.message decides.queries.spells asks.queries.spells in
        let same : asks.asked ≡ asked = asks.queries.is ∙ (ap asked_of message ∙ sym decides.queries.is) in
        inr (asks.are ∙ (λ i. turn_calls (steps_of terms.said (has.files_are i)) (blocks i) serial (query_of d (same i)) marks))

    went : TurnedTo zone terms.said d asked has.line marks decides.decision (meant zone terms.said d asked)
    went =
        turned zone terms.said d asked has.line marks decides.decision
        (subst (λ (x : List FileText × List Block × List Mark). asked_decides (steps_of terms.said x.0) x.1 d asked x.2 ≡ Done decides.decision []) (λ i. (has.files_are i, has.blocks_are i, append-nil marks i)) (decides.took []))

    calls_all : (P : Mark → Type 0) → AllByRecursion P marks → Calls → AllByRecursion (λ (c : Call Mark). P c.mark) calls
    calls_all P all (inl none) = subst (AllByRecursion (λ (c : Call Mark). P c.mark)) (sym none.0) tt
    calls_all P all (inr are) = subst (AllByRecursion (λ (c : Call Mark). P c.mark)) (sym are) (turn_all P terms.said zone has.line serial q marks all)

    abbrev v : Decision
    v = decides.decision

    abbrev wants : Option ℕ
    wants = datagram_code (load_bundle conf_text zone) d

    hit_found : IsCachedTurn zone terms.said d asked has.line marks v (meant zone terms.said d asked) → (hit : IsHitTurn (key_of q) marks v) → FindJust serial calls → Calls → Just zone (key_of q) hit.entry
    hit_found cached hit finds (inl none) = absurd (no_calls q marks v hit none.1)
    hit_found cached hit finds (inr are) =
        found_just terms.said zone has.line serial q marks v hit cached.picks cached.within (Just zone)
        (subst (AllByRecursion (λ (c : Call Mark). is_at serial 0 (shard_of (key_of q)) c ≡ true → IsJustHit (Just zone) c.mark)) are (finds (shard_of (key_of q)) (low_shard (key_of q))))

    cached_code : (cached : IsCachedTurn zone terms.said d asked has.line marks v (meant zone terms.said d asked)) → IsHitTurn (key_of q) marks v ⊎ IsMissTurn (key_of q) (said_code zone q) marks v → lowered q.name ≡ q.name → FindJust serial calls → code_in v ≡ wants
    cached_code cached (inl hit) small finds =
        hit.has ∙ (sym (hit_found cached hit finds (are_calls called) q small refl) ∙ (cached.code_is ∙ sym (datagram_is zone terms.said d asked decides.queries)))
    cached_code cached (inr miss) small finds = miss.has ∙ (cached.code_is ∙ sym (datagram_is zone terms.said d asked decides.queries))

    comes_by : TurnedTo zone terms.said d asked has.line marks v (meant zone terms.said d asked) → ComesTo serial d asked.question.name marks calls (code_in v)
    comes_by (inl cached) = record {
      inner = turn_inner q marks v cached.turn;
      puts = λ small. calls_all (IsJustPut (Just zone)) (turn_puts q marks v small cached.turn) (are_calls called);
      code = λ small finds. cached_code cached cached.turn small finds;
    }
    comes_by (inr plain) = record {
      inner = subst (AllByRecursion IsOfCache) (sym plain.0) tt;
      puts = λ small. calls_all (IsJustPut (Just zone)) (subst (AllByRecursion (IsJustPut (Just zone))) (sym plain.0) tt) (are_calls called);
      code = λ small finds. plain.1 ∙ sym (datagram_is zone terms.said d asked decides.queries);
    }

    pub comes : ComesTo serial d asked.question.name marks calls (code_in v)
    comes = comes_by went

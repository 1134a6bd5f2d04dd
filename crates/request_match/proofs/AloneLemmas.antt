-- One entry alone has the key of a request.
use Rattle.std.proofs.Common.{None, ◌≡◌, ℕ, ◌+◌, ◌<◌, ◌≤◌, List, length, get_or, ap, arith}
use Rattle.std.specs.Prelude.{Option, slice_get, Some, option_map}
use Rattle.http_frame.specs.declared.messages.RequestHead.{RequestHead}
use Rattle.record_store.specs.declared.record.Record.{Record}
use Rattle.request_match.specs.Match.{FitsPort, Agrees, BestCause}
use Rattle.request_match.specs.inside.Index.{Entry, IsIndex, HasScore, InOrder, entry_at, key_of, offered, head_copy}
use Rattle.request_match.proofs.IndexLemmas.{none_below, next_scanned, scanned_all}

-- where the copies are equal, the record agrees
pub copy_agrees : (q : RequestHead) (asked : Option ℕ) (r : Record) → FitsPort r.port asked
    → head_copy r.request.head ≡ head_copy q → Agrees q asked r
copy_agrees q asked r fits e = record {
  port = fits;
  host = ap (λ w. w.host) e;
  agent = ap (λ w. w.agent) e;
  line = ap (λ w. w.front) e;
}

pub agrees_copy : (q : RequestHead) (asked : Option ℕ) (r : Record) → Agrees q asked r
    → head_copy r.request.head ≡ head_copy q
agrees_copy q asked r a = λ i. record { front = a.line i; host = a.host i; agent = a.agent i }

-- where the next entry has another key, so have all after it
pub alone_end : (q : RequestHead) (es : List Entry) (start key : ℕ) → InOrder es → key ≡ key_of q
    → ((k : ℕ) (d : Entry) → start ≤ k → k < length es → key ≤ (get_or es k d).0)
    → ((d : Entry) → start + 1 < length es → (get_or es (start + 1) d).0 ≡ key → ⊥)
    → (j : ℕ) → start + 1 ≤ j → j < length es → (entry_at es j).0 ≡ key_of q → ⊥
alone_end q es start key ordered is from other j up small e =
    let next : start + 1 < length es = omega (arith, up, small) in
    let least = from (start + 1) (0, 0) (omega arith) next in
    let more = ordered (start + 1) j (0, 0) up small in
    other (0, 0) next (omega (arith, least, more, e, is))

-- its record is the best if it agrees, and otherwise none is
pub best_alone : (q : RequestHead) (asked : Option ℕ) (rs : List Record) (es : List Entry) (fs : List (Option ℕ))
    → IsIndex rs asked es fs → (start : ℕ) (r : Record) → start ≤ length es
    → ((k : ℕ) (d : Entry) → k < start → (get_or es k d).0 < key_of q)
    → ((j : ℕ) → start + 1 ≤ j → j < length es → (entry_at es j).0 ≡ key_of q → ⊥)
    → slice_get rs (entry_at es start).1 ≡ Some r → (score : Option ℕ) → HasScore q asked r score
    → BestCause q asked rs (option_map (λ (f : ℕ × ℕ). f.0) (offered None (entry_at es start).1 score))
best_alone q asked rs es fs index start r inside below end there score has =
    scanned_all q asked rs es fs index (start + 1) (offered None (entry_at es start).1 score)
    (next_scanned q asked rs es start r there None score (none_below q asked rs es fs index start inside below) has) end

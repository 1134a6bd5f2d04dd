-- Two streams give one answer: a store, or the first refusal.
use Rattle.std.proofs.Common.{Bool, true, ◌≡◌, ◌≢◌, ◌∙◌, ℕ, ◌+◌, ◌<◌, ◌≤◌, List, [], ◌∷◌, ◌++◌, length, Ok, Err, refl}
use Rattle.std.proofs.Common.{sym, ap, subst, arith, append-nil, length-append}
use Rattle.std.specs.Prelude.{Result}
use Rattle.httparse.proofs.GrammarLemmas.{response_unique}
use Rattle.http_frame.specs.Forms.{response_form, said_of_request}
use Rattle.http_frame.specs.Runs.{AreRequests, BeginsWithNone, BeginsWithNoResponse}
use Rattle.http_frame.specs.declared.messages.Request.{Request}
use Rattle.http_frame.specs.declared.messages.Response.{Response}
use Rattle.http_frame.proofs.ChunkLemmas.{split_same}
use Rattle.http_frame.proofs.FindingLemmas.{messages_same}
use Rattle.http_frame.proofs.RunLemmas.{messages_unique}
use Rattle.record_store.specs.Pairs.{IsThen, AreInterim, AfterInterim, IsAnswer, AreAnswers, Pairs}
use Rattle.record_store.specs.declared.errors.PairError.{PairError}
use Rattle.record_store.specs.declared.errors.PairError.TheVariants as errors
use Rattle.record_store.specs.declared.record.Record.{Record}
use Rattle.record_store.proofs.PairLemmas.{request_some, response_some}
use Rattle.record_store.proofs.ExchangeLaws.{same_response}

-- ---- one response, and the interim ones before it

then_same : (to_head : Bool) (bytes : List ℕ) (m k : Response) (after other : List ℕ) → IsThen to_head bytes m after
    → IsThen to_head bytes k other → (m ≡ k) × (after ≡ other)
then_same to_head bytes m k after other p q =
    let split = sym p.split ∙ q.split in
    let same = messages_same (response_form to_head) response_unique true m.bytes k.bytes after other p.is.tree
    q.is.tree p.is.is q.is.is p.stops q.stops split in
    (same_response to_head m k p.is q.is same.0, (split_same m.bytes k.bytes after other (ap length same.0) split).1)

-- no interim response is there
abbrev Halts : Bool → List ℕ → Type 0
Halts to_head rest = (k : Response) (after : List ℕ) → IsThen to_head rest k after → k.head.status < 200 → ⊥

interim_same : (to_head : Bool) (bytes : List ℕ) (ms ks : List Response) (x y : List ℕ)
    → AreInterim to_head bytes ms x → AreInterim to_head bytes ks y → Halts to_head x → Halts to_head y → x ≡ y
interim_same to_head bytes [] [] x y p q halt halt' = sym p ∙ q
interim_same to_head bytes [] (k ∷ ks) x y p q halt halt' =
    absurd (halt k q.0 (subst (λ (ys : List ℕ). IsThen to_head ys k q.0) p q.1) q.2)
interim_same to_head bytes (m ∷ ms) [] x y p q halt halt' =
    absurd (halt' m p.0 (subst (λ (ys : List ℕ). IsThen to_head ys m p.0) q p.1) p.2)
interim_same to_head bytes (m ∷ ms) (k ∷ ks) x y p q halt halt' =
    let same = then_same to_head bytes m k p.0 q.0 p.1 q.1 in
    interim_same to_head q.0 ms ks x y (subst (λ (ys : List ℕ). AreInterim to_head ys ms x) same.1 p.3) q.3 halt halt'

halts_final : (to_head : Bool) (rest : List ℕ) (m : Response) (after : List ℕ) → IsThen to_head rest m after
    → 200 ≤ m.head.status → Halts to_head rest
halts_final to_head rest m after is final = λ k other p low.
    let same = then_same to_head rest m k after other is p in
    let status : m.head.status ≡ k.head.status = ap (λ (r : Response). r.head.status) same.0 in
    omega (arith, low, final)

nothing_then : (to_head : Bool) (k : Response) (after : List ℕ) → IsThen to_head [] k after → ⊥
nothing_then to_head k after p = omega (
  arith,
  response_some to_head k p.is,
  ap length p.split,
  length-append k.bytes after,
)

none_then : (to_head : Bool) (rest : List ℕ) → BeginsWithNoResponse to_head rest → (k : Response) (after : List ℕ)
    → IsThen to_head rest k after → ⊥
none_then to_head rest none k after p = none k.bytes after p.is.tree p.is.is p.split p.stops

-- ---- one answer

answer_same : (to_head : Bool) (bytes : List ℕ) (m k : Response) (after other : List ℕ)
    → IsAnswer to_head bytes m after → IsAnswer to_head bytes k other → (m ≡ k) × (after ≡ other)
answer_same to_head bytes m k after other p q =
    let before = interim_same to_head bytes p.passed.0 q.passed.0 p.before q.before p.passed.1 q.passed.1
    (halts_final to_head p.before m after p.is p.final)
    (halts_final to_head q.before k other q.is q.final) in
    then_same to_head q.before m k after other (subst (λ (ys : List ℕ). IsThen to_head ys m after) before p.is) q.is

-- no answer is there
abbrev LacksAnswer : Bool → List ℕ → Type 0
LacksAnswer to_head bytes = (m : Response) (after : List ℕ) → IsAnswer to_head bytes m after → ⊥

lacks_by : (to_head : Bool) (bytes rest : List ℕ) → AfterInterim to_head bytes rest
    → ((k : Response) (after : List ℕ) → IsThen to_head rest k after → ⊥) → LacksAnswer to_head bytes
lacks_by to_head bytes rest passed none = λ m after is.
    let before = interim_same to_head bytes is.passed.0 passed.0 is.before rest is.passed.1 passed.1
    (halts_final to_head is.before m after is.is is.final) (λ k other p low. none k other p) in
    none m after (subst (λ (ys : List ℕ). IsThen to_head ys m after) before is.is)

-- ---- all answers as far as they go

abbrev StopsAt : List Request → List ℕ → Type 0
StopsAt [] left = Unit {0}
StopsAt (m ∷ later) left = LacksAnswer m.head.head_only left

record Same (done other todo next : List Request) (rs ss : List Record) (left rest : List ℕ) : Type 0 where
  pub done_same : done ≡ other
  pub todo_same : todo ≡ next
  pub records_same : rs ≡ ss
  pub left_same : left ≡ rest

walk_same : (port : ℕ) (bytes : List ℕ) (done other todo next : List Request) (rs ss : List Record)
    (left rest : List ℕ) → AreAnswers port bytes done rs left
    → AreAnswers port bytes other ss rest → done ++ todo ≡ other ++ next → StopsAt todo left → StopsAt next rest
    → Same done other todo next rs ss left rest
walk_same port bytes [] [] todo next [] [] left rest p q e stop stop' =
    record { done_same = refl; todo_same = e; records_same = refl; left_same = sym p ∙ q }
walk_same port bytes [] [] todo next [] (s ∷ ss) left rest p q e stop stop' = absurd q
walk_same port bytes [] [] todo next (r ∷ rs) ss left rest p q e stop stop' = absurd p
walk_same port bytes [] (k ∷ ks) todo next [] [] left rest p q e stop stop' = absurd q
walk_same port bytes [] (k ∷ ks) todo next [] (s ∷ ss) left rest p q e stop stop' =
    let lacks : LacksAnswer k.head.head_only left = subst (λ (ms : List Request). StopsAt ms left) e stop in
    absurd (lacks s.response q.0 (subst (λ (ys : List ℕ). IsAnswer k.head.head_only ys s.response q.0) p q.3))
walk_same port bytes [] (k ∷ ks) todo next (r ∷ rs) ss left rest p q e stop stop' = absurd p
walk_same port bytes (m ∷ ms) other todo next [] ss left rest p q e stop stop' = absurd p
walk_same port bytes (m ∷ ms) [] todo next (r ∷ rs) [] left rest p q e stop stop' =
    let lacks : LacksAnswer m.head.head_only rest = subst (λ (ms : List Request). StopsAt ms rest) (sym e) stop' in
    absurd (lacks r.response p.0 (subst (λ (ys : List ℕ). IsAnswer m.head.head_only ys r.response p.0) q p.3))
walk_same port bytes (m ∷ ms) [] todo next (r ∷ rs) (s ∷ ss) left rest p q e stop stop' = absurd q
walk_same port bytes (m ∷ ms) (k ∷ ks) todo next (r ∷ rs) [] left rest p q e stop stop' = absurd q
walk_same port bytes (m ∷ ms) (k ∷ ks) todo next (r ∷ rs) (s ∷ ss) left rest p q e stop stop' =
    let request : m ≡ k = cc in
    let tails : ms ++ todo ≡ ks ++ next = cc in
    let answer = answer_same k.head.head_only bytes r.response s.response p.0 q.0
    (subst (λ (x : Request). IsAnswer x.head.head_only bytes r.response p.0) request p.3) q.3 in
    let requests : r.request ≡ s.request = p.1 ∙ request ∙ sym q.1 in
    let ports : r.port ≡ s.port = p.2 ∙ sym q.2 in
    let same : r ≡ s = λ i. record { port = ports i; request = requests i; response = answer.0 i } in
    let later = walk_same port q.0 ms ks todo next rs ss left rest
    (subst (λ (ys : List ℕ). AreAnswers port ys ms rs left) answer.1 p.4) q.4 tails stop stop' in
    record {
      done_same = λ i. request i ∷ later.done_same i;
      todo_same = later.todo_same;
      records_same = λ i. same i ∷ later.records_same i;
      left_same = later.left_same;
    }

-- ---- what two streams give

data Says (done todo : List Request) (rs : List Record) (left : List ℕ) (result : Result (List Record) PairError) :
    Type 0 where
  answered : todo ≡ [] → left ≡ [] → result ≡ Ok rs → Says done todo rs left result
  extra : todo ≡ [] → 0 < length left → result ≡ Err errors.ExtraResponse → Says done todo rs left result
  unanswered : (m : Request) (later : List Request) → todo ≡ m ∷ later → AfterInterim m.head.head_only left []
      → result ≡ Err (errors.Unanswered (length done + 1)) → Says done todo rs left result
  refused : (m : Request) (later : List Request) (before : List ℕ) → todo ≡ m ∷ later
      → AfterInterim m.head.head_only left before → BeginsWithNoResponse m.head.head_only before
      → 0 < length before → result ≡ Err (errors.BadResponse (length done + 1)) → Says done todo rs left result

record Walk (client server : List ℕ) (port : ℕ) (result : Result (List Record) PairError) : Type 0 where
  pub done : List Request
  pub todo : List Request
  pub records : List Record
  pub left : List ℕ
  pub whole : AreRequests client (done ++ todo) []
  pub answers : AreAnswers port server done records left
  pub says : Says done todo records left result

data Kind (client server : List ℕ) (port : ℕ) (result : Result (List Record) PairError) : Type 0 where
  unread : (ms : List Request) (rest : List ℕ) → AreRequests client ms rest → BeginsWithNone rest → 0 < length rest
      → result ≡ Err (errors.BadRequest (length ms + 1))
      → Kind client server port result
  walked : Walk client server port result → Kind client server port result
  forgotten : result ≡ Err errors.OutOfMemory → Kind client server port result

kind_of : (client server : List ℕ) (port : ℕ) (result : Result (List Record) PairError)
    → Pairs client server port result → Kind client server port result
kind_of client server port (Ok rs) p =
    walked (record {
      done = p.0;
      todo = [];
      records = rs;
      left = [];
      whole = subst (λ (ms : List Request). AreRequests client ms []) (sym (append-nil p.0)) p.1;
      answers = p.2;
      says = answered refl refl refl;
    })
kind_of client server port (Err (errors.BadRequest n)) p =
    unread p.0 p.1 p.2 p.3 p.4 (ap (λ (k : ℕ). Err (errors.BadRequest k)) p.5)
kind_of client server port (Err (errors.BadResponse n)) p =
    walked (record {
      done = p.3.done;
      todo = p.0 ∷ p.3.later;
      records = p.3.records;
      left = p.1;
      whole = p.3.whole;
      answers = p.3.answers;
      says = refused p.0 p.3.later p.2 refl p.4 p.5 p.6 (ap (λ (k : ℕ). Err (errors.BadResponse k)) p.3.place);
    })
kind_of client server port (Err (errors.Unanswered n)) p =
    walked (record {
      done = p.2.done;
      todo = p.0 ∷ p.2.later;
      records = p.2.records;
      left = p.1;
      whole = p.2.whole;
      answers = p.2.answers;
      says = unanswered p.0 p.2.later refl p.3 (ap (λ (k : ℕ). Err (errors.Unanswered k)) p.2.place);
    })
kind_of client server port (Err errors.ExtraResponse) p =
    walked (record {
      done = p.0;
      todo = [];
      records = p.1;
      left = p.2;
      whole = subst (λ (ms : List Request). AreRequests client ms []) (sym (append-nil p.0)) p.3;
      answers = p.4;
      says = extra refl p.5 refl;
    })
kind_of client server port (Err errors.OutOfMemory) p = forgotten refl

stops_so : (done todo : List Request) (rs : List Record) (left : List ℕ) (result : Result (List Record) PairError)
    → Says done todo rs left result → StopsAt todo left
stops_so done todo rs left result (answered none gone r) = subst (λ (ms : List Request). StopsAt ms left) (sym none) tt
stops_so done todo rs left result (extra none some r) = subst (λ (ms : List Request). StopsAt ms left) (sym none) tt
stops_so done todo rs left result (unanswered m later is passed r) =
    subst (λ (ms : List Request). StopsAt ms left) (sym is)
    (lacks_by m.head.head_only left [] passed (nothing_then m.head.head_only))
stops_so done todo rs left result (refused m later before is passed none some r) =
    subst (λ (ms : List Request). StopsAt ms left) (sym is)
    (lacks_by m.head.head_only left before passed (none_then m.head.head_only before none))

empty_none : {P : Type 0} → (todo : List Request) (m : Request) (later : List Request) → todo ≡ [] → todo ≡ m ∷ later
    → P
empty_none todo m later p q = let e : todo ≡ [] = p in cc

some_left : {P : Type 0} → (left : List ℕ) → left ≡ [] → 0 < length left → P
some_left left none some = let zero = ap length none in absurd (omega arith)

-- of one request: its answer is missing, and not refused
not_both : {P : Type 0} → (todo : List Request) (left before : List ℕ) (m k : Request) (later next : List Request)
    → todo ≡ m ∷ later → todo ≡ k ∷ next
    → AfterInterim m.head.head_only left [] → AfterInterim k.head.head_only left before
    → BeginsWithNoResponse k.head.head_only before → 0 < length before → P
not_both todo left before m k later next p q passed passed' none some =
    let same : m ≡ k = let e : todo ≡ k ∷ next = q in cc in
    let here = subst (λ (x : Request). AfterInterim x.head.head_only left []) same passed in
    let gone = interim_same k.head.head_only left here.0 passed'.0 [] before here.1 passed'.1
    (λ r after is low. nothing_then k.head.head_only r after is)
    (λ r after is low. none_then k.head.head_only before none r after is) in
    some_left before (sym gone) some

says_once : (done todo : List Request) (rs : List Record) (left : List ℕ) (a b : Result (List Record) PairError)
    → Says done todo rs left a → Says done todo rs left b → a ≡ b
says_once done todo rs left a b (answered none gone r) (answered none' gone' r') = r ∙ sym r'
says_once done todo rs left a b (answered none gone r) (extra none' some r') = some_left left gone some
says_once done todo rs left a b (answered none gone r) (unanswered m later is passed r') =
    empty_none todo m later none is
says_once done todo rs left a b (answered none gone r) (refused m later before is passed lacks some r') =
    empty_none todo m later none is
says_once done todo rs left a b (extra none some r) (answered none' gone r') = some_left left gone some
says_once done todo rs left a b (extra none some r) (extra none' some' r') = r ∙ sym r'
says_once done todo rs left a b (extra none some r) (unanswered m later is passed r') = empty_none todo m later none is
says_once done todo rs left a b (extra none some r) (refused m later before is passed lacks some' r') =
    empty_none todo m later none is
says_once done todo rs left a b (unanswered m later is passed r) (answered none gone r') =
    empty_none todo m later none is
says_once done todo rs left a b (unanswered m later is passed r) (extra none some r') = empty_none todo m later none is
says_once done todo rs left a b (unanswered m later is passed r) (unanswered k next is' passed' r') = r ∙ sym r'
says_once done todo rs left a b (unanswered m later is passed r) (refused k next before is' passed' lacks some r') =
    not_both todo left before m k later next is is' passed passed' lacks some
says_once done todo rs left a b (refused m later before is passed lacks some r) (answered none gone r') =
    empty_none todo m later none is
says_once done todo rs left a b (refused m later before is passed lacks some r) (extra none some' r') =
    empty_none todo m later none is
says_once done todo rs left a b (refused m later before is passed lacks some r) (unanswered k next is' passed' r') =
    not_both todo left before k m next later is' is passed' passed lacks some
says_once done todo rs left a b (refused m later before is passed lacks some r)
    (refused k next before' is' passed' lacks' some' r') = r ∙ sym r'

nothing_begins : BeginsWithNone []
nothing_begins = λ bytes after h is e.
    let m : Request = record { head = said_of_request h; bytes = bytes } in
    let some = request_some m (record { tree = h; is = is; says = refl }) in
    omega (arith, some, ap length e, length-append bytes after)

walks_same : (client server : List ℕ) (port : ℕ) (a b : Result (List Record) PairError) → Walk client server port a
    → Walk client server port b → a ≡ b
walks_same client server port a b x y =
    let requests = messages_unique client (x.done ++ x.todo) (y.done ++ y.todo) [] [] (x.whole, nothing_begins)
    (y.whole, nothing_begins) in
    let same = walk_same port server x.done y.done x.todo y.todo x.records y.records x.left y.left x.answers y.answers
    requests.0
    (stops_so x.done x.todo x.records x.left a x.says) (stops_so y.done y.todo y.records y.left b y.says) in
    let says = subst (λ (ys : List ℕ). Says y.done y.todo y.records ys a) same.left_same
    (subst (λ (rs : List Record). Says y.done y.todo rs x.left a) same.records_same
    (subst (λ (ms : List Request). Says y.done ms x.records x.left a) same.todo_same
    (subst (λ (ms : List Request). Says ms x.todo x.records x.left a) same.done_same x.says))) in
    says_once y.done y.todo y.records y.left a b says y.says

not_whole : {P : Type 0} → (client rest : List ℕ) (ms ks : List Request) → AreRequests client ms rest
    → BeginsWithNone rest → 0 < length rest → AreRequests client ks [] → P
not_whole client rest ms ks p none some q =
    some_left rest (messages_unique client ms ks rest [] (p, none) (q, nothing_begins)).1 some

kinds_same : (client server : List ℕ) (port : ℕ) (a b : Result (List Record) PairError) → a ≢ Err errors.OutOfMemory
    → b ≢ Err errors.OutOfMemory → Kind client server port a
    → Kind client server port b → a ≡ b
kinds_same client server port a b p q (unread ms rest is none some r) (unread ks rest' is' none' some' r') =
    r ∙ ap (λ (l : List Request). Err (errors.BadRequest (length l + 1)))
    (messages_unique client ms ks rest rest' (is, none) (is', none')).0 ∙ sym r'
kinds_same client server port a b p q (unread ms rest is none some r) (walked y) =
    not_whole client rest ms (y.done ++ y.todo) is none some y.whole
kinds_same client server port a b p q (walked x) (unread ms rest is none some r) =
    not_whole client rest ms (x.done ++ x.todo) is none some x.whole
kinds_same client server port a b p q (walked x) (walked y) = walks_same client server port a b x y
kinds_same client server port a b p q (forgotten r) y = absurd (p r)
kinds_same client server port a b p q (unread ms rest is none some r) (forgotten r') = absurd (q r')
kinds_same client server port a b p q (walked x) (forgotten r') = absurd (q r')

-- two streams give one answer, but for memory
pub one_pairing : (client server : List ℕ) (port : ℕ) (a b : Result (List Record) PairError)
    → Pairs client server port a → Pairs client server port b → b ≢ Err errors.OutOfMemory
    → a ≢ Err errors.OutOfMemory → a ≡ b
one_pairing client server port a b x y q p = kinds_same client server port a b p q (kind_of client server port a x)
    (kind_of client server port b y)

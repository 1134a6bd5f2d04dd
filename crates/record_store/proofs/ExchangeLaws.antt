-- Whole requests and responses, and when bytes are none.
use Rattle.std.proofs.Common.{Bool, true, ◌≡◌, ◌≢◌, ◌∙◌, ℕ, ◌≤◌, List, [], ◌++◌, length, Some, None, Ok, refl, sym, ap}
use Rattle.std.proofs.Common.{subst, arith, length-append, append-nil}
use Rattle.std.specs.Prelude.{Result}
use Rattle.std.proofs.lemmas.List.{nil_from_length}
use Rattle.httparse.specs.Grammar.{print_request, print_response, status_code}
use Rattle.httparse.proofs.GrammarLemmas.{response_unique}
use Rattle.http_frame.specs.Forms.{response_form, said_of_request, said_of_response}
use Rattle.http_frame.specs.Framing.{response_framing}
use Rattle.http_frame.specs.Messages.{MayStop}
use Rattle.http_frame.specs.Runs.{IsRequestOf, IsResponseOf, FirstRequest, BeginsResponse, BeginsWithNoResponse}
use Rattle.http_frame.specs.declared.errors.FrameError.{FrameError}
use Rattle.http_frame.specs.declared.framing.Framing.{Framing}
use Rattle.http_frame.specs.declared.framing.Framing.TheVariants.{Length, Chunked, ToEnd}
use Rattle.http_frame.specs.declared.messages.Request.{Request}
use Rattle.http_frame.specs.declared.messages.Response.{Response}
use Rattle.http_frame.proofs.RunLemmas.{prefix_free}
use Rattle.http_frame.proofs.FindingLemmas.{messages_same}
use Rattle.record_store.specs.Exchanges.{IsExchange}
use Rattle.record_store.specs.inside.Exchanges.{OneRequest, OneResponse}
use Rattle.record_store.specs.Headers.{most_length}
use Rattle.record_store.specs.Records.{IsRecord}
use Rattle.record_store.specs.declared.record.Record.{Record}

-- ---- requests

nothing_after : (bytes text after : List ℕ) → bytes ≡ text ++ after → length text ≡ length bytes → text ≡ bytes
nothing_after bytes text after split long =
    let gone : after ≡ [] = nil_from_length after (omega (arith, ap length split, length-append text after)) in
    sym (split ∙ ap (λ (ys : List ℕ). text ++ ys) gone ∙ append-nil text)

pub whole_request : (bytes : List ℕ) (m : Request) → FirstRequest bytes (Some m) → length m.bytes ≡ length bytes
    → OneRequest bytes (Some m)
whole_request bytes m first long = (first.0, nothing_after bytes m.bytes first.1 first.2 long)

pub short_request : (bytes : List ℕ) (m : Request) → FirstRequest bytes (Some m) → length m.bytes ≢ length bytes
    → OneRequest bytes None
short_request bytes m first short = λ k is e.
    let same = prefix_free k.bytes m.bytes [] first.1 is.tree first.0.tree is.is first.0.is (append-nil k.bytes ∙ e
    ∙ first.2) in
    short (ap length (sym same.0 ∙ e))

pub no_request : (bytes : List ℕ) → FirstRequest bytes None → OneRequest bytes None
no_request bytes none = λ k is e. none k.bytes [] is.tree is.is (sym e ∙ sym (append-nil k.bytes))

pub same_request : (a b : Request) → IsRequestOf a → IsRequestOf b → a.bytes ≡ b.bytes → a ≡ b
same_request a b p q e =
    let same = prefix_free a.bytes b.bytes [] [] p.tree q.tree p.is q.is (ap (λ (l : List ℕ). l ++ []) e) in
    let heads : a.head ≡ b.head = p.says ∙ ap said_of_request same.1 ∙ sym q.says in
    λ i. record { head = heads i; bytes = e i }

pub request_short : (m : Request) → IsRequestOf m → length m.bytes ≤ most_length
request_short m p = let e = ap length p.is.split in let f = length-append (print_request p.tree) p.is.body
    in omega (arith, p.is.limits.bytes, p.is.fits)

-- ---- responses

stops_at_end : (f : Framing) → MayStop f true []
stops_at_end (Length n) = tt
stops_at_end Chunked = tt
stops_at_end ToEnd = (refl, refl)

same_tree : (to_head : Bool) (a b : Response) (after : List ℕ) (p : IsResponseOf to_head a)
    (q : IsResponseOf to_head b) → MayStop q.is.framing true after
    → a.bytes ≡ b.bytes ++ after → (a.bytes ≡ b.bytes) × (p.tree ≡ q.tree)
same_tree to_head a b after p q stops e =
    messages_same (response_form to_head) response_unique true a.bytes b.bytes [] after p.tree q.tree p.is q.is
    (stops_at_end p.is.framing) stops (append-nil a.bytes ∙ e)

pub same_status : (to_head : Bool) (a b : Response) (p : IsResponseOf to_head a) (q : IsResponseOf to_head b)
    → p.tree ≡ q.tree → a.head.status ≡ b.head.status
same_status to_head a b p q e = ap (λ h. h.status) p.says ∙ ap status_code e ∙ sym (ap (λ h. h.status) q.says)

pub whole_response : (to_head : Bool) (bytes : List ℕ) (m : Response) → BeginsResponse to_head bytes m
    → length m.bytes ≡ length bytes → 200 ≤ m.head.status
    → OneResponse to_head bytes (Some m)
whole_response to_head bytes m b long final = (b.is, nothing_after bytes m.bytes b.after b.split long, final)

pub other_response : (to_head : Bool) (bytes : List ℕ) (m : Response) → BeginsResponse to_head bytes m
    → (length m.bytes ≡ length bytes → 200 ≤ m.head.status → ⊥)
    → OneResponse to_head bytes None
other_response to_head bytes m b other = λ k is e final.
    let same = same_tree to_head k m b.after is b.is b.stops (e ∙ b.split) in
    let status = same_status to_head k m is b.is same.1 in
    other (ap length (sym same.0 ∙ e)) (subst (λ (n : ℕ). 200 ≤ n) status final)

pub no_response : (to_head : Bool) (bytes : List ℕ) → BeginsWithNoResponse to_head bytes
    → OneResponse to_head bytes None
no_response to_head bytes none = λ k is e final. none k.bytes [] is.tree is.is (sym e ∙ sym (append-nil k.bytes))
    (stops_at_end is.is.framing)

ok_same : (a b : Framing) (r : Result Framing FrameError) → r ≡ Ok a → r ≡ Ok b → a ≡ b
ok_same a b r p q = let e : r ≡ Ok b = q in cc

pub same_response : (to_head : Bool) (a b : Response) → IsResponseOf to_head a → IsResponseOf to_head b
    → a.bytes ≡ b.bytes → a ≡ b
same_response to_head a b p q e =
    let same = same_tree to_head a b [] p q (stops_at_end q.is.framing) (e ∙ sym (append-nil b.bytes)) in
    let framings : p.is.framing ≡ q.is.framing = ok_same p.is.framing q.is.framing (response_framing to_head q.tree)
    (sym (ap (response_framing to_head) same.1) ∙ p.is.framed) q.is.framed in
    let heads : a.head ≡ b.head = p.says ∙ ap (λ (f : Framing). said_of_response f p.tree) framings
    ∙ ap (said_of_response q.is.framing) same.1 ∙ sym q.says in
    λ i. record { head = heads i; bytes = e i }

pub response_short : (to_head : Bool) (m : Response) → IsResponseOf to_head m → length m.bytes ≤ most_length
response_short to_head m p = let e = ap length p.is.split in let f = length-append (print_response p.tree) p.is.body
    in omega (arith, p.is.limits.bytes, p.is.fits)

-- ---- both

pub lacks_request : (request response : List ℕ) → OneRequest request None → IsExchange request response → ⊥
lacks_request request response none x = none x.0.request x.1.request x.2

pub lacks_response : (request response : List ℕ) (m : Request) → OneRequest request (Some m)
    → OneResponse m.head.head_only response None → IsExchange request response → ⊥
lacks_response request response m found none x =
    let r = x.0 in
    let same : r.request ≡ m = same_request r.request m x.1.request found.0 (x.2 ∙ sym found.1) in
    none r.response (subst (λ (k : Request). IsResponseOf k.head.head_only r.response) same x.1.response) x.3 x.1.final

pub same_record : (a b : Record) → IsRecord a → IsRecord b → a.port ≡ b.port → a.request.bytes ≡ b.request.bytes
    → a.response.bytes ≡ b.response.bytes → a ≡ b
same_record a b p q ports requests responses =
    let request : a.request ≡ b.request = same_request a.request b.request p.request q.request requests in
    let response : a.response ≡ b.response =
    same_response b.request.head.head_only a.response b.response
    (subst (λ (k : Request). IsResponseOf k.head.head_only a.response) request p.response) q.response responses in
    λ i. record { port = ports i; request = request i; response = response i }

-- The index of the rows.
use Rattle.std.proofs.Common.{◌≡◌, ◌≢◌, ◌⊎◌, inl, inr, ℕ, ◌+◌, ◌-◌, ◌<◌, ◌≤◌, cond, List, length, get_or, Option, Some}
use Rattle.std.proofs.Common.{None, ap, sym, ◌∙◌, arith, nat_eq, eq-eqb, ne_eqb, MatchOption, ⊎_elim, [], ◌∷◌, zero}
use Rattle.std.proofs.Common.{suc}
use Rattle.std.proofs.lemmas.Bool.{cases_eq}
use Rattle.std.specs.declared.hash.FoldHasher.{FoldHasher}
use Rattle.std.specs.declared.hash.BuildHasherDefault.{BuildHasherDefault}
use Rattle.std.specs.HashMap.{get, HashMap}
use Rattle.packet_record.specs.declared.packet.Row.{Row}
use Rattle.packet_record.specs.Rows.{AreApart}
use Rattle.nest_spec.specs.inside.Index.{IsIndex, IsNowhere, IsOnlyAt, AreFromOne}

abbrev Places : Type 0
Places = HashMap ℕ ℕ (BuildHasherDefault FoldHasher)

id_at : List Row → ℕ → Row → ℕ
id_at rows i d = (get_or rows i d).timed.packet.id

pub placed : (rows : List Row) (m : Places) (id : ℕ) (o : Option ℕ) → IsIndex rows m → o ≡ get nat_eq m id
    → MatchOption o (IsNowhere rows id) (λ i. IsOnlyAt rows id i)
placed rows m id None is e = λ j d lt same. let there = is.leads j d lt in let no : None ≡ Some j = e
    ∙ ap (get nat_eq m) (sym same) ∙ there in cc no
placed rows m id (Some i) is e = record {
  within = is.within id i (sym e);
  here = λ d. is.only id i d (sym e);
  others = λ j d lt ne same. let there = is.leads j d lt in let one : Some i ≡ Some j = e
      ∙ ap (get nat_eq m) (sym same) ∙ there in ne (cc one);
}

-- the index of the rows before this place
pub record IsIndexTo (rows : List Row) (n : ℕ) (index : Places) : Type 0 where
  pub leads : (i : ℕ) (d : Row) → i < n → get nat_eq index (get_or rows i d).timed.packet.id ≡ Some i
  pub within : (id i : ℕ) → get nat_eq index id ≡ Some i → i < n
  pub only : (id i : ℕ) (d : Row) → get nat_eq index id ≡ Some i → (get_or rows i d).timed.packet.id ≡ id

pub index_none : (rows : List Row) (m : Places) → ((id : ℕ) → get nat_eq m id ≡ None) → IsIndexTo rows 0 m
index_none rows m none = record {
  leads = λ i d lt. absurd (omega arith);
  within = λ id i e. let no : None ≡ Some i = sym (none id) ∙ e in cc no;
  only = λ id i d e. let no : None ≡ Some i = sym (none id) ∙ e in cc no;
}

pub index_more : (rows : List Row) (n : ℕ) (row : Row) (m m' : Places) → AreApart rows → n < length rows
    → row ≡ get_or rows n row → IsIndexTo rows n m
    → ((q : ℕ) → get nat_eq m' q ≡ cond (nat_eq row.timed.packet.id q) (Some n) (get nat_eq m q))
    → IsIndexTo rows (n + 1) m'
index_more rows n row m m' apart lt read is up =
    let id = row.timed.packet.id in
    let new : (q : ℕ) → q ≡ id → get nat_eq m' q ≡ Some n = λ q e. up q
    ∙ ap (λ b. cond b (Some n) (get nat_eq m q)) (eq-eqb id q (sym e)) in
    let old : (q : ℕ) → q ≢ id → get nat_eq m' q ≡ get nat_eq m q = λ q ne. up q
    ∙ ap (λ b. cond b (Some n) (get nat_eq m q)) (ne_eqb id q (λ e. ne (sym e))) in
    let here : (d : Row) → (get_or rows n d).timed.packet.id ≡ id = λ d. ap (λ (r : Row). r.timed.packet.id)
    (one rows n d row lt read) in
    record {
      leads = λ i d h. ⊎_elim
          (λ (e : i ≡ n). new _ (ap (λ k. (get_or rows k d).timed.packet.id) e ∙ here d) ∙ ap Some (sym e))
          (λ (ne : i ≢ n). old _ (λ same. ne (apart i n d (omega arith) lt (same ∙ sym (here d))))
          ∙ is.leads i d (omega arith))
          (cases_eq i n);
      within = λ q i e. ⊎_elim
          (λ (same : q ≡ id). let k : Some n ≡ Some i = sym (new q same) ∙ e in let z : n ≡ i = cc k in omega arith)
          (λ (ne : q ≢ id). let k = is.within q i (sym (old q ne) ∙ e) in omega arith)
          (cases_eq q id);
      only = λ q i d e. ⊎_elim
          (λ (same : q ≡ id). let k : Some n ≡ Some i = sym (new q same) ∙ e in let z : i ≡ n = cc k
          in ap (λ j. (get_or rows j d).timed.packet.id) z ∙ here d ∙ sym same)
          (λ (ne : q ≢ id). is.only q i d (sym (old q ne) ∙ e))
          (cases_eq q id);
    }
  where
    one : (rows : List Row) (i : ℕ) (b row : Row) → i < length rows → row ≡ get_or rows i row → get_or rows i b ≡ row
    one [] i b row lt read = absurd (omega arith)
    one (r ∷ rows) zero b row lt read = sym read
    one (r ∷ rows) (suc i) b row lt read = one rows i b row (omega arith) read

pub index_all : (rows : List Row) (n : ℕ) (m : Places) → length rows ≤ n → IsIndexTo rows n m → n ≤ length rows
    → IsIndex rows m
index_all rows n m le is ge = record {
  leads = λ i d lt. is.leads i d (omega arith);
  within = λ id i e. let h = is.within id i e in omega arith;
  only = λ id i d e. is.only id i d e;
}

-- rows with the numbers 1, 2, 3 and on
pub numbered_nowhere : (rows : List Row) (id : ℕ) → AreFromOne rows → (id ≡ 0) ⊎ (length rows < id) → IsNowhere rows id
numbered_nowhere rows id numbered (inl none) j d lt same = let at = numbered j d lt in omega arith
numbered_nowhere rows id numbered (inr past) j d lt same = let at = numbered j d lt in omega arith

pub numbered_at : (rows : List Row) (id : ℕ) → AreFromOne rows → 0 < id → id ≤ length rows → IsOnlyAt rows id (id - 1)
numbered_at rows id numbered some most = record {
  within = omega arith;
  here = λ d. let at = numbered (id - 1) d (omega arith) in omega arith;
  others = λ j d lt ne same. let at = numbered j d lt in ne (omega arith);
}

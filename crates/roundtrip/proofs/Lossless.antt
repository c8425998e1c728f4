-- No clause fails exactly where the message comes back, by either reading, and where it comes back reading gives it: the clauses one by
-- one, then both directions for a message within limits. Assumes nothing.
use Prim.Native.Nat.{ℕ, ◌≤◌, ◌<◌}
use mathlib.Core.Path.{◌≡◌, refl, sym, ap, ◌∙◌}
use mathlib.Core.Bool.{Bool, true, false, ◌&&◌, false≢true}
use mathlib.Core.Logic.{◌↔◌, ⊎_elim}
use mathlib.Core.List.{List, [], ◌∷◌}
use mathlib.Core.Option.{Option, none, some}
use native.Mathlib.Omega.{arith}
use lib.Dec.{eqb}
use lib.ListN.{length}
use borrow.Author.Tests.{eq-eqb, ne_eqb}
use Rattle.format.specs.Bytes.{Bytes, is_empty, all}
use Rattle.format.specs.Characters.{is_utf8, is_white, clear_ends}
use Rattle.format.specs.Refusals.{Out, accepted}
use Rattle.format.specs.Message.{Entry, Header, Message, valid}
use Rattle.format.specs.Calls.{Stores}
use Rattle.format.specs.Layout.{Lent, Held, message}
use Rattle.format.specs.Writing.{write}
use Rattle.format.specs.Reading.{read}
use Rattle.format.specs.ReadingRfc.{read_rfc}
use Rattle.format.specs.Demand3.{has_header, not_type, clear_content, comes_back, RoomFor}
use Rattle.format.specs.SecondReading.{comes_back_rfc}
use Rattle.format.specs.declared.Manner.{Manner}
use Rattle.format.specs.declared.Manner.TheVariants.{Source, Rfc}
use Rattle.format.proofs.Lists.{bcase, clash}
use Rattle.format.proofs.Texts.SourceRoundTrip.{reads_back, back_only}
use Rattle.format.proofs.Texts.RfcRoundTrip.{reads_back_rfc, back_only_rfc}
use Rattle.std.specs.Prelude.{Result, Ok, Err, Some, is_ok}
use Rattle.roundtrip.specs.Clauses.{FirstFails, passing}
use Rattle.roundtrip.specs.declared.Loss.{Loss}
use Rattle.roundtrip.specs.declared.Lost.{Lost}
use Rattle.roundtrip.specs.declared.Lost.TheVariants as code
use Rattle.roundtrip.specs.Loss.{lost, none_lost, told, clause, each, params_asked, name_asked, early, late, loss_by, loss_held_by, loss_held, held_meets, condition, whole_held, whole_held_rfc, ReadsBackBy, ReadsBack, ReadsBackRfc}

-- A clause that holds, and one that fails.
pub clause_holds : {b : Bool} (l rest : Loss) → b ≡ true → clause b l rest ≡ rest
unfolding clause
clause_holds l rest h = rw h refl

pub clause_fails : {b : Bool} (l rest : Loss) → b ≡ false → clause b l rest ≡ l
unfolding clause
clause_fails l rest h = rw h refl

-- The same of each of some entries, by the first that fails.
module _ {A : Type 0} (c : ℕ) (p : A → Bool) (xs : List A) (rest : Loss) where
  pub each_holds : all p xs ≡ true → each c p xs rest ≡ rest
  unfolding each
  each_holds h = clause_holds (lost c (passing p xs)) rest h

  pub each_fails : (n : ℕ) → FirstFails p xs (Some n) → each c p xs rest ≡ lost c n
  unfolding each
  each_fails n h = clause_fails (lost c (passing p xs)) rest h.0 ∙ ap (lost c) (sym h.1)

-- there is a header, or none
pub headed : (hs : List Header) (many : ℕ) → many ≡ length hs → (many ≡ 0 → ⊥) → has_header hs ≡ true
unfolding has_header is_empty
headed [] many e h = absurd (h e)
headed (x ∷ hs) many e h = refl

pub headless : (hs : List Header) (many : ℕ) → many ≡ length hs → many ≡ 0 → has_header hs ≡ false
unfolding has_header is_empty
headless [] many e h = refl
headless (x ∷ hs) many e h = absurd (omega arith)

-- The first four clauses leave it to the rest, or say what no rest changes.
module _ (r : Manner) (hs : List Header) (cs : List Entry) (body : Bytes) (rest : Loss) where
  pub early_passes : (early r hs cs body none_lost).clause ≡ 0 → early r hs cs body rest ≡ rest
  unfolding early each clause
  early_passes = four (has_header hs) (all (params_asked r) hs) (is_utf8 body) (all not_type cs)
    where
      four : (a b c d : Bool)
          → (clause a (lost 1 0) (clause b (lost 2 (passing (params_asked r) hs)) (clause c (lost 3 0) (clause d (lost 4 (passing not_type cs)) none_lost)))).clause ≡ 0
          → clause a (lost 1 0) (clause b (lost 2 (passing (params_asked r) hs)) (clause c (lost 3 0) (clause d (lost 4 (passing not_type cs)) rest))) ≡ rest
      four true true true true h = refl
      four true true true false h = absurd (omega arith)
      four true true false d h = absurd (omega arith)
      four true false c d h = absurd (omega arith)
      four false b c d h = absurd (omega arith)

  pub early_stops : ((early r hs cs body none_lost).clause ≡ 0 → ⊥) → early r hs cs body rest ≡ early r hs cs body none_lost
  unfolding early each clause
  early_stops = four (has_header hs) (all (params_asked r) hs) (is_utf8 body) (all not_type cs)
    where
      four : (a b c d : Bool)
          → ((clause a (lost 1 0) (clause b (lost 2 (passing (params_asked r) hs)) (clause c (lost 3 0) (clause d (lost 4 (passing not_type cs)) none_lost)))).clause ≡ 0 → ⊥)
          → clause a (lost 1 0) (clause b (lost 2 (passing (params_asked r) hs)) (clause c (lost 3 0) (clause d (lost 4 (passing not_type cs)) rest)))
          ≡ clause a (lost 1 0) (clause b (lost 2 (passing (params_asked r) hs)) (clause c (lost 3 0) (clause d (lost 4 (passing not_type cs)) none_lost)))
      four true true true true h = absurd (h refl)
      four true true true false h = refl
      four true true false d h = refl
      four true false c d h = refl
      four false b c d h = refl

-- One clause more: no clause fails exactly where it holds and no other fails.
zero_and : (b : Bool) (c n : ℕ) (rest : Loss) (p : Bool) → 0 < c → (rest.clause ≡ 0) ↔ (p ≡ true) → ((clause b (lost c n) rest).clause ≡ 0) ↔ ((b && p) ≡ true)
unfolding clause
zero_and true c n rest p h e = e
zero_and false c n rest p h e = (λ z. absurd (omega arith), λ z. absurd (false≢true z))

zero_last : (b : Bool) (c n : ℕ) → 0 < c → ((clause b (lost c n) none_lost).clause ≡ 0) ↔ (b ≡ true)
unfolding clause
zero_last true c n h = (λ z. refl, λ z. refl)
zero_last false c n h = (λ z. absurd (omega arith), λ z. absurd (false≢true z))

-- The clauses of a reading in their order, as one test.
abbrev asked : Manner → Message → Bool
asked r m =
    has_header m.headers
    && (all (params_asked r) m.headers
    && (is_utf8 m.body
    && (all not_type m.contents
    && (all (name_asked r) m.headers && (all clear_content m.contents && clear_ends is_white m.type)))))

none_asked : (r : Manner) (m : Message) → ((loss_by r m).clause ≡ 0) ↔ (asked r m ≡ true)
unfolding loss_by early late each
none_asked r m =
    zero_and _ 1 _ _ _ (omega arith)
    (zero_and _ 2 _ _ _ (omega arith)
    (zero_and _ 3 _ _ _ (omega arith)
    (zero_and _ 4 _ _ _ (omega arith)
    (zero_and _ 5 _ _ _ (omega arith) (zero_and _ 6 _ _ _ (omega arith) (zero_last _ 7 _ (omega arith)))))))

-- the second reading takes any name
pub any_name : (hs : List Header) → all (name_asked Rfc) hs ≡ true
unfolding all
any_name [] = refl
any_name (h ∷ hs) = any_name hs

asked_is : (r : Manner) (m : Message) → asked r m ≡ condition r m
unfolding comes_back comes_back_rfc
asked_is Source m = refl
asked_is Rfc m = rw (any_name m.headers) refl

-- No clause fails exactly where the message comes back.
pub loss_none : (r : Manner) (m : Message) → ((loss_by r m).clause ≡ 0) ↔ (condition r m ≡ true)
loss_none r m = ((λ h. sym (asked_is r m) ∙ (none_asked r m).0 h), (λ h. (none_asked r m).1 (asked_is r m ∙ h)))

-- What holds of 0 and of the number of each clause that may fail holds of the number given.
module _ (P : ℕ → Type 0) where
  one_of : (b : Bool) (c n : ℕ) (rest : Loss) → (b ≡ false → P c) → P rest.clause → P (clause b (lost c n) rest).clause
  unfolding clause
  one_of true c n rest h e = e
  one_of false c n rest h e = h refl

  given : (r : Manner) (m : Message) → P 0 → P 1 → P 2 → P 3 → P 4 → (all (name_asked r) m.headers ≡ false → P 5) → P 6 → P 7 → P (loss_by r m).clause
  unfolding loss_by early late each
  given r m p0 p1 p2 p3 p4 p5 p6 p7 =
      one_of _ 1 _ _ (λ f. p1)
      (one_of _ 2 _ _ (λ f. p2)
      (one_of _ 3 _ _ (λ f. p3)
      (one_of _ 4 _ _ (λ f. p4) (one_of _ 5 _ _ p5 (one_of _ 6 _ _ (λ f. p6) (one_of _ 7 _ none_lost (λ f. p7) p0))))))

-- Of a message a number up to 7 is given, so 8 never is.
pub numbered : (r : Manner) (m : Message) → (loss_by r m).clause ≤ 7
numbered r m =
    given (λ k. k ≤ 7) r m (omega arith) (omega arith) (omega arith) (omega arith) (omega arith) (λ f. omega arith) (omega arith) (omega arith)

-- Nor is 5 by the second reading.
pub never_five : (m : Message) → (loss_by Rfc m).clause ≡ 5 → ⊥
never_five m =
    given (λ k. k ≡ 5 → ⊥) Rfc m (λ e. omega arith) (λ e. omega arith) (λ e. omega arith) (λ e. omega arith) (λ e. omega arith)
    (clash (any_name m.headers)) (λ e. omega arith) (λ e. omega arith)

-- The answer, by what is held.
answers : (r : Manner) (o : Option Message) (l : Loss) → l ≡ loss_held_by r o → eqb l.clause 0 ≡ held_meets (condition r) o
unfolding held_meets
answers r none l e = ne_eqb l.clause 0 (λ z. absurd (omega (arith, ap (λ (x : Loss). x.clause) e)))
answers r (some k) l e =
    let same = ap (λ (x : Loss). x.clause) e in
    ⊎_elim
    (λ b. eq-eqb l.clause 0 (same ∙ (loss_none r k).1 b) ∙ sym b)
    (λ b. ne_eqb l.clause 0 (λ z. clash ((loss_none r k).0 (sym same ∙ z)) b) ∙ sym b)
    (bcase (condition r k))

-- no clause fails exactly where the code answers Ok
ok_is : {A : Type 0} (o : Result A Lost) → is_ok o ≡ eqb (told o).clause 0
unfolding told
ok_is (Ok a) = refl
ok_is (Err code.NoHeader) = refl
ok_is (Err (code.Params n)) = refl
ok_is (Err code.BodyNotUtf8) = refl
ok_is (Err (code.ContentType n)) = refl
ok_is (Err (code.HeaderName n)) = refl
ok_is (Err (code.ContentEnds n)) = refl
ok_is (Err code.TypeEnds) = refl
ok_is (Err code.NothingHeld) = refl

-- what fails has a number
pub err_lost : (e : Lost) → (told {A = Unit {0}} (Err e)).clause ≡ 0 → ⊥
unfolding told
err_lost code.NoHeader h = omega arith
err_lost (code.Params n) h = omega arith
err_lost code.BodyNotUtf8 h = omega arith
err_lost (code.ContentType n) h = omega arith
err_lost (code.HeaderName n) h = omega arith
err_lost (code.ContentEnds n) h = omega arith
err_lost code.TypeEnds h = omega arith
err_lost code.NothingHeld h = omega arith

-- What the answer to a loss l says, by a reading that gives a message back exactly under its condition.
module _ (r : Manner) (reading : Bytes → Stores → Out Message)
    (back : (k : Message) (stores : Stores) → valid k ≡ true → condition r k ≡ true → RoomFor k stores → reading (write k) stores ≡ accepted k)
    (only : (k : Message) (stores : Stores) → valid k ≡ true → reading (write k) stores ≡ accepted k → condition r k ≡ true)
    (lent : Lent) (l : Loss) (e : (o : Option Message) → Held lent o → l ≡ loss_held_by r o) where
  says_condition : (o : Option Message) → Held lent o → eqb l.clause 0 ≡ held_meets (condition r) o
  says_condition o h = answers r o l (e o h)

  says_back : ReadsBackBy reading lent (eqb l.clause 0)
  unfolding held_meets
  says_back k g stores room =
      let told = says_condition (some k) (message g) in
      ((λ h. back k stores g.within (sym told ∙ h) room), (λ b. told ∙ only k stores g.within b))

module _ (lent : Lent) (l : Loss) where
  pub source_says : ((o : Option Message) → Held lent o → l ≡ loss_held o)
      → ((o : Option Message) → Held lent o → eqb l.clause 0 ≡ whole_held o) × ReadsBack lent (eqb l.clause 0)
  source_says e = (says_condition Source read reads_back back_only lent l e, says_back Source read reads_back back_only lent l e)

  pub rfc_says : ((o : Option Message) → Held lent o → l ≡ loss_held_by Rfc o)
      → ((o : Option Message) → Held lent o → eqb l.clause 0 ≡ whole_held_rfc o) × ReadsBackRfc lent (eqb l.clause 0)
  rfc_says e = (says_condition Rfc read_rfc reads_back_rfc back_only_rfc lent l e, says_back Rfc read_rfc reads_back_rfc back_only_rfc lent l e)

-- The same of the result of the code, which is Ok exactly where no clause fails.
module _ {A : Type 0} (lent : Lent) (l : Result A Lost) (b : Bool) (s : b ≡ is_ok l) where
  pub source_result_says : ((o : Option Message) → Held lent o → told l ≡ loss_held o)
      → ((o : Option Message) → Held lent o → b ≡ whole_held o) × ReadsBack lent b
  source_result_says e = rw (s, ok_is l) (source_says lent (told l) e)

  pub rfc_result_says : ((o : Option Message) → Held lent o → told l ≡ loss_held_by Rfc o)
      → ((o : Option Message) → Held lent o → b ≡ whole_held_rfc o) × ReadsBackRfc lent b
  rfc_result_says e = rw (s, ok_is l) (rfc_says lent (told l) e)

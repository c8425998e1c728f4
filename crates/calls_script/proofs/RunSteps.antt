-- The contracts of the calls are the steps of a run (crates/format/specs/Runs.antt). A call whose contract said less would be no step.
-- Assumes nothing.
use mathlib.Core.Path.{◌≡◌, refl, sym, subst}
use mathlib.Core.Bool.{true, false, false≢true}
use mathlib.Core.List.{List, ◌∷◌, ◌++◌}
use mathlib.Core.Logic.{⊎_elim}
use mathlib.Core.Option.{Option}
use Rattle.format.specs.Bytes.{Bytes}
use Rattle.format.specs.Message.{LoneHeader}
use Rattle.format.specs.Calls.{Call, Lends, head_alone, lends, set_body, add_header_obj}
use Rattle.format.specs.Layout.{HeldAlone, header, nothing}
use Rattle.format.specs.Lending.{head_lent, both_lent, LentHeader, Changed, HeaderAdded}
use Rattle.format.specs.Runs.{State, lend, is_body, Ensured, Run, done, step}
use Rattle.format.specs.declared.Numbers.{Numbers}
use Rattle.format.specs.declared.CpimMessage.{CpimMessage}
use Rattle.format.specs.declared.CpimHeader.{CpimHeader}
use Rattle.format.proofs.Lists.{bcase, clash}
use Rattle.store_check.specs.Holding.{header_holds}
use Rattle.store_check.proofs.HeaderHeld.{holds_alone_held, held_alone_holds}
use Rattle.calls_script.specs.Script.{state, held_alone}

-- What a header's record and store hold is what is read of them where they pass.
pub held_alone_lem : (h : CpimHeader) (store : Bytes) → HeldAlone h store (held_alone h store)
unfolding held_alone
held_alone_lem h store = ⊎_elim held unheld (bcase (header_holds h store))
  where
    held : header_holds h store ≡ true → HeldAlone h store (held_alone h store)
    held e = rw e (header (held_alone_holds h store e))

    unheld : header_holds h store ≡ false → HeldAlone h store (held_alone h store)
    unheld e = rw e (nothing (λ k w. clash (holds_alone_held h store k w) e))

-- one run behind another
pub run_on : (s t u : State) (cs ds : List Call) → Run s cs t → Run t ds u → Run s (cs ++ ds) u
run_on s t u cs ds r q = go r ds u q
  where
    go : {s : State} {cs : List Call} {t : State} → Run s cs t → (ds : List Call) (u : State) → Run t ds u → Run s (cs ++ ds) u
    go done ds u q = q
    go (step n e f r) ds u q = step n e f (go r ds u q)

-- A call on the head store alone: set_header, add_header, add_content_header and the wrappers.
module _ (m r : CpimMessage) (head left body : Bytes) (n : Numbers) (cs : List Call) (u : State) where
  pub head_step : (c : Call) → lends c ≡ head_alone → Changed c (head_lent m head) (head_lent r left) n
      → Run (state r left body) cs u → Run (state m head body) (c ∷ cs) u
  unfolding is_body
  head_step c e h run =
      step n (subst (λ (d : Lends). Ensured d c (lend (is_body d) (state m head body)) (lend (is_body d) (state r left body)) n) (sym e) h) (λ f. refl) run

-- set_body
pub body_step : (m r : CpimMessage) (head store left b : Bytes) (n : Numbers) (cs : List Call) (u : State)
    → Changed (set_body b) (both_lent m head store) (both_lent r head left) n
    → Run (state r head left) cs u → Run (state m head store) (set_body b ∷ cs) u
unfolding lends is_body
body_step m r head store left b n cs u h run = step n h (λ f. absurd (false≢true (sym f))) run

-- add_header_obj: the header counts as what its record and store hold
pub header_step_lem : (m r : CpimMessage) (head left body name : Bytes) (g : LentHeader) (o : Option LoneHeader) (n : Numbers) (cs : List Call) (u : State)
    → HeldAlone g.header g.store o → HeaderAdded name g (head_lent m head) (head_lent r left) n
    → Run (state r left body) cs u → Run (state m head body) (add_header_obj name o ∷ cs) u
unfolding lends is_body
header_step_lem m r head left body name g o n cs u held h run = step {c = add_header_obj name o} n (g, held, h) (λ f. refl) run

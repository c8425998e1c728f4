-- What an accepted call on a header alone hands back holds that header. Assumes nothing.
use mathlib.Core.Path.{◌≡◌, refl, sym, ap, ◌∙◌, subst}
use mathlib.Core.Bool.{true}
use mathlib.Core.Option.{Option, some}
use lib.ListN.{length}
use Rattle.format.specs.Bytes.{Bytes}
use Rattle.format.specs.Refusals.{accepted}
use Rattle.format.specs.Message.{LoneHeader, valid_alone}
use Rattle.format.specs.Calls.{new_header, with_param}
use Rattle.format.specs.Layout.{HoldsAlone, HeldAlone, header}
use Rattle.format.specs.Lending.{LentHeader, laid_alone, makes_header, MadeHeader, leaves_header, ParamSet}
use Rattle.format.specs.declared.Numbers.{Numbers}
use Rattle.format.proofs.Messages.Layout.{laid_alone_lem}
use Rattle.format.proofs.Messages.Valid.{new_header_valid, with_param_valid}

laid_holds_alone : (store : Bytes) (h : LoneHeader) → valid_alone h ≡ true → HoldsAlone (laid_alone store h).header (laid_alone store h).store h
unfolding laid_alone
laid_holds_alone store h v = laid_alone_lem store h v

-- `CpimHeader::new`
pub made_header_holds : (v store : Bytes) (k : LentHeader) (n : Numbers) (h : LoneHeader) → MadeHeader v store k n
    → new_header v (length store) ≡ accepted h → HoldsAlone k.header k.store h
unfolding makes_header
made_header_holds v store k n h w e =
    subst (λ x. HoldsAlone x.header x.store h) (sym (w.left ∙ ap (makes_header store) e)) (laid_holds_alone store h (new_header_valid v (length store) h e))

-- `with_param`
pub param_set_holds : (name value : Bytes) (l k : LentHeader) (n : Numbers) (g h : LoneHeader) → ParamSet name value l k n
    → HoldsAlone l.header l.store g → with_param name value (length l.store) (some g) ≡ accepted h → HoldsAlone k.header k.store h
unfolding leaves_header
param_set_holds name value l k n g h w a e =
    subst (λ x. HoldsAlone x.header x.store h) (sym (w.left (some g) (header a) ∙ ap (leaves_header l) e))
    (laid_holds_alone l.store h (with_param_valid name value (length l.store) g h a.within e))

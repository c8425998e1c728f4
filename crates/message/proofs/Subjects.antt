-- `with_subject_lang`: a header with the parameter lang, built and added; its checks are the value, the parameter's value, and those of
-- adding it. Assumes nothing.
use Prim.Native.Nat.{◌≤◌}
use mathlib.Core.Path.{◌≡◌, sym, ap, ◌∙◌, subst}
use mathlib.Core.Bool.{true}
use mathlib.Core.List.{List, [], ◌∷◌}
use native.Mathlib.Omega.{arith}
use lib.ListN.{length}
use Rattle.format.specs.Bytes.{Bytes, ascii}
use Rattle.format.specs.Limits.{max_param_value}
use Rattle.format.specs.Refusals.{Out, accepted, passes, ◌>>◌, ◌>>=◌}
use Rattle.format.specs.Validators.{header_name, header_value, param_name, param_value}
use Rattle.format.specs.Message.{Entry, LoneHeader, Message, entry}
use Rattle.format.specs.Calls.{Stores, with_subject_lang, change, alone_of, add_param, set_param, param_count, header_obj_added, append}
use Rattle.format.specs.Layout.{Lent}
use Rattle.format.specs.Lending.{head_lent, lengths}
use Rattle.format.specs.declared.Numbers.{Numbers}
use Rattle.format.specs.declared.CpimMessage.{CpimMessage}
use Rattle.format.proofs.Steps.{then_passed, then_bind}
use Rattle.format.proofs.Rulesets.{checks}
use Rattle.message_edit.specs.Edits.{Does}
use Rattle.message.proofs.Wrapping.{lang_put, lang_name, subject_name}

pub param_short : (v : Bytes) → passes (param_value v) ≡ true → length v ≤ max_param_value
unfolding param_value
param_short v h = (simp checks at h).0

-- the parameter alone
set_lang : (l : Bytes) → set_param (ascii "lang") l [] ≡ ◌>>◌ (param_value l) (accepted (entry (ascii "lang") l ∷ []))
unfolding set_param param_count
set_lang l =
    then_passed (param_name (ascii "lang")) _ lang_name
    ∙ ap (λ (o : Out (List Entry)). ◌>>◌ (param_value l) o)
    (then_passed (param_count 0) _ (simp checks (omega arith)) ∙ ap accepted (lang_put l))

-- the header alone
lang_header : (v l : Bytes) → add_param (ascii "lang") l (record { value = v; params = [] })
    ≡ ◌>>◌ (param_value l) (accepted (record { value = v; params = entry (ascii "lang") l ∷ [] }))
unfolding add_param
lang_header v l = ap (λ (o : Out (List Entry)). ◌>>=◌ o (λ ps. accepted (record { value = v; params = ps }))) (set_lang l) ∙ then_bind (param_value l) _ _

-- the call as one chain of checks
chain : (v l : Bytes) (st : Stores) (m : Message) → change (with_subject_lang v l) st m
    ≡ ◌>>◌ (header_value v) (◌>>◌ (param_value l) (append (record { name = ascii "Subject"; value = v; params = entry (ascii "lang") l ∷ [] }) st m))
unfolding change alone_of header_obj_added
chain v l st m =
    then_bind (header_value v) (record { value = v; params = [] }) (λ h. ◌>>=◌ (add_param (ascii "lang") l h) (λ k. header_obj_added (ascii "Subject") k st m))
    ∙ ap (λ (o : Out Message). ◌>>◌ (header_value v) o)
    (ap (λ (o : Out LoneHeader). ◌>>=◌ o (λ k. header_obj_added (ascii "Subject") k st m)) (lang_header v l)
    ∙ then_bind (param_value l) _ (λ k. header_obj_added (ascii "Subject") k st m)
    ∙ ap (λ (o : Out Message). ◌>>◌ (param_value l) o) (then_passed (header_name (ascii "Subject")) _ subject_name))

module _ (m : CpimMessage) (head v l : Bytes) (q : Message) (k : Lent) (n : Numbers) where
  abbrev Added : Out Message
  Added = append (record { name = ascii "Subject"; value = v; params = entry (ascii "lang") l ∷ [] }) (lengths (head_lent m head)) q

  pub subject_value : Does (head_lent m head) k n (◌>>◌ (header_value v) (◌>>◌ (param_value l) Added))
      → Does (head_lent m head) k n (change (with_subject_lang v l) (lengths (head_lent m head)) q)
  subject_value d = subst (Does (head_lent m head) k n) (sym (chain v l (lengths (head_lent m head)) q)) d

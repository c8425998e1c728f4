-- One part read: what `set_param_held` does to the header alone in the room is what reading makes of the part, since there is always
-- room. Assumes nothing.
use Rattle.std.specs.Prelude.{Result, Ok, Err}
use Rattle.std.specs.Result.{result_unwrap_or}
use Prim.Native.Nat.{◌≤◌}
use mathlib.Core.Path.{◌≡◌, refl, sym, ap, ◌∙◌, subst}
use mathlib.Core.Bool.{true, false, not}
use mathlib.Core.List.{List, []}
use native.Mathlib.Omega.{arith}
use lib.ListN.{length}
use Rattle.format.specs.Bytes.{Bytes, equals, has, up_to, past}
use Rattle.format.specs.Characters.{is_utf8, is_white}
use Rattle.format.specs.Limits.{max_value}
use Rattle.format.specs.Refusals.{Out, accepted, refused, numbers, table, value_too_long, param_lacks_equals, passes, refuse_if, ◌>>◌, ◌>>=◌}
use Rattle.format.specs.Validators.{header_value}
use Rattle.format.specs.Message.{Entry, need_alone, valid_alone}
use Rattle.format.specs.Calls.{room, set_param, add_param, if_room_alone}
use Rattle.format.specs.Layout.{HoldsAlone}
use Rattle.format.specs.Lending.{LentHeader, leaves_header, laid_alone}
use Rattle.format.specs.Reading.{read_param}
use Rattle.format.specs.ReadingRfc.{read_param_rfc}
use Rattle.format.specs.Told.{told, meant, checked}
use Rattle.format.specs.declared.Numbers.{Numbers}
use Rattle.format.specs.declared.refusal.Refusal.{Refusal}
use Rattle.format.specs.declared.CpimHeader.{CpimHeader}
use Rattle.format.specs.declared.Manner.{Manner}
use Rattle.format.specs.declared.Manner.TheVariants.{Source, Rfc}
use Rattle.format.proofs.Steps.{accepted_same, refused_accepted, then_passed, refuse_unless_passed, at_most_passed}
use Rattle.format.proofs.Answers.{room_enough}
use Rattle.format.proofs.Characters.Chars.{utf8_nil}
use Rattle.format.proofs.Characters.Trim.{trim_utf8}
use Rattle.format.proofs.Splitting.SplitUtf8.{up_to_utf8, past_utf8}
use Rattle.format.proofs.Messages.Parts.{Params, alone_parts, alone_whole}
use Rattle.format.proofs.Messages.Layout.{laid_alone_lem}
use Rattle.format.proofs.Messages.Valid.{set_param_within}
use Rattle.header.specs.Alone.{alone_in, set_in, DoesAlone}
use Rattle.header.proofs.ParamSizes.{entries_bytes}
use Rattle.read_header_line.specs.Gathered.{Yields, bare, Standing}
use Rattle.read_header_line.specs.HeaderLine.{taken_by, lacking_by, param_reader}
use Rattle.read_header_line.proofs.Yielding.{yields, yields_as}

-- an empty value is within limits, and so is the header of these parameters
empty_passes : passes (header_value []) ≡ true
unfolding header_value
empty_passes = at_most_passed max_value value_too_long 0 (omega arith)

pub bare_valid : (ps : List Entry) → Params ps → valid_alone (bare ps) ≡ true
bare_valid ps w = alone_whole (bare ps) (record { valued = empty_passes; value_utf8 = utf8_nil; params = w })

-- ten parameters at most: 3,376 bytes
pub bare_need : (ps : List Entry) → Params ps → need_alone (bare ps) ≤ 3376
unfolding need_alone
bare_need ps w = omega (arith, entries_bytes ps w.each, w.few)

module _ (h : CpimHeader) (result : Result CpimHeader Refusal) (before after : Bytes) (enough : 3376 ≤ length before) where
  laid : (ps : List Entry) → Params ps → DoesAlone (alone_in h before) (alone_in (result_unwrap_or result h) after) (told result) (if_room_alone (length before) (bare ps))
      → Yields result (accepted ps) (λ k. Standing k after)
  unfolding if_room_alone leaves_header laid_alone numbers
  laid ps w d =
      let passed = then_passed (room (length before) (need_alone (bare ps))) (accepted (bare ps)) (room_enough (length before) (need_alone (bare ps)) (omega (arith, bare_need ps w))) in
      let left : alone_in (result_unwrap_or result h) after ≡ laid_alone before (bare ps) = d.left ∙ ap (leaves_header (alone_in h before)) passed in
      record {
        answered = d.answered ∙ ap numbers passed;
        there = λ k qs o e. subst (Standing k after) (accepted_same ps qs e)
            (subst (λ (l : LentHeader). HoldsAlone l.header l.store (bare ps))
            (sym left ∙ ap (λ (r : Result CpimHeader Refusal). alone_in (result_unwrap_or r h) after) o)
            (laid_alone_lem before (bare ps) (bare_valid ps w)));
      }

  -- a parameter set
  module _ (name value : Bytes) (ps : List Entry) where
    pub set_there : is_utf8 name ≡ true → is_utf8 value ≡ true → Standing h before ps
        → DoesAlone (alone_in h before) (alone_in (result_unwrap_or result h) after) (told result) (set_in name value (length before) (bare ps))
        → Yields result (set_param name value ps) (λ k. Standing k after)
    unfolding set_in add_param ◌>>=◌ numbers
    set_there u v s d =
        go (set_param name value ps) (λ qs e. set_param_within name value ps qs u v (alone_parts (bare ps) s.within).params e) d
      where
        go : (o : Out (List Entry)) → ((qs : List Entry) → o ≡ accepted qs → Params qs)
            → DoesAlone (alone_in h before) (alone_in (result_unwrap_or result h) after) (told result) (◌>>=◌ (◌>>=◌ o (λ qs. accepted (bare qs))) (if_room_alone (length before)))
            → Yields result o (λ k. Standing k after)
        go (accepted qs) f e = laid qs (f qs refl) e
        go (refused x) f e = record { answered = e.answered; there = λ k qs z q. refused_accepted x qs q }

-- What the readings make of a part: with `=` a parameter is set, without it nothing, or 27 is answered.
part_parted : (r : Manner) (part : Bytes) (ps : List Entry) → has equals part ≡ true
    → param_reader r part ps ≡ set_param (taken_by r (up_to equals part)) (taken_by r (past equals part)) ps
unfolding read_param read_param_rfc
part_parted Source part ps e = rw e refl
part_parted Rfc part ps e =
    then_passed (refuse_if (not (has equals part)) param_lacks_equals) _ (refuse_unless_passed (has equals part) param_lacks_equals e)

taken_utf8 : (r : Manner) (s : Bytes) → is_utf8 s ≡ true → is_utf8 (taken_by r s) ≡ true
taken_utf8 Source s u = trim_utf8 is_white s u
taken_utf8 Rfc s u = u

-- a part with `=`
pub part_set : (h : CpimHeader) (result : Result CpimHeader Refusal) (before after : Bytes) → 3376 ≤ length before
    → (r : Manner) (part name value : Bytes) (ps : List Entry) → is_utf8 part ≡ true → has equals part ≡ true
    → name ≡ taken_by r (up_to equals part) → value ≡ taken_by r (past equals part) → Standing h before ps
    → DoesAlone (alone_in h before) (alone_in (result_unwrap_or result h) after) (told result) (set_in name value (length before) (bare ps))
    → Yields result (param_reader r part ps) (λ k. Standing k after)
part_set h result before after enough r part name value ps u e a b s d =
    yields_as
    (set_there h result before after enough name value ps
    (ap is_utf8 a ∙ taken_utf8 r (up_to equals part) (up_to_utf8 equals part (omega arith) u))
    (ap is_utf8 b ∙ taken_utf8 r (past equals part) (past_utf8 equals part (omega arith) u)) s d)
    (part_parted r part ps e ∙ rw (a, b) refl)

-- A part without: it is skipped, or refused.
module _ (part : Bytes) (ps : List Entry) (lacks : has equals part ≡ false) where
  pub part_skipped : (r : Manner) (u : Unit {0}) (h : CpimHeader) (store : Bytes) → checked (Ok u) ≡ lacking_by r → Standing h store ps
      → Yields (Ok h) (param_reader r part ps) (λ k. Standing k store)
  unfolding checked read_param
  part_skipped Source u h store e s = yields ps (rw lacks refl) s
  part_skipped Rfc u h store e s = refused_accepted param_lacks_equals u (sym e)

  pub part_refused : (r : Manner) (e : Refusal) → checked {A = Unit {0}} (Err e) ≡ lacking_by r → numbers (param_reader r part ps) ≡ table (meant e)
  unfolding checked read_param_rfc refuse_if ◌>>◌ numbers
  part_refused Source e h = refused_accepted (meant e) tt h
  part_refused Rfc e h = rw lacks (ap numbers (sym h))

-- both at once: the numbers of what meets such a part are the reading's, and where it goes on the room holds the same parameters
pub part_lacking : (r : Manner) (h : CpimHeader) (store part : Bytes) (ps : List Entry) (n : Numbers) → n ≡ numbers (lacking_by r) → has equals part ≡ false → Standing h store ps
    → (n ≡ numbers (param_reader r part ps)) × ((qs : List Entry) → param_reader r part ps ≡ accepted qs → Standing h store qs)
unfolding read_param read_param_rfc refuse_if ◌>>◌ numbers
part_lacking Source h store part ps n l e s =
    let same : read_param part ps ≡ accepted ps = rw e refl in
    (l ∙ sym (ap numbers same), λ qs q. subst (Standing h store) (accepted_same ps qs (sym same ∙ q)) s)
part_lacking Rfc h store part ps n l e s =
    let same : read_param_rfc part ps ≡ refused param_lacks_equals = rw e refl in
    (l ∙ sym (ap numbers same), λ qs q. refused_accepted param_lacks_equals qs (sym same ∙ q))

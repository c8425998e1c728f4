-- What `parse_head` and `parse_cpim` ensure, by what the lines of a text give and by its body, for any reader of a header line. Assumes nothing.
use Rattle.std.specs.Prelude.{Result, Ok, Err, Some, None, if◌then◌else◌}
use Rattle.std.specs.Result.{is_err, result_unwrap_or}
use Prim.Native.Nat.{ℕ, ◌-◌, ◌≤◌, ◌<◌}
use mathlib.Core.Path.{◌≡◌, refl, sym, ap, subst, ◌∙◌}
use mathlib.Core.Bool.{Bool, true, false, true≢false}
use mathlib.Core.Option.{some}
use native.Mathlib.Omega.{arith}
use lib.ListN.{length, drop, replicate, length-drop}
use Rattle.format.specs.Bytes.{Bytes, lf_lf_text, pieces, split, over}
use Rattle.format.specs.Limits.{max_body, max_text}
use Rattle.format.specs.Refusals.{table, Out, accepted, numbers}
use Rattle.format.specs.Message.{Header, Message}
use Rattle.format.specs.Calls.{with_body}
use Rattle.format.specs.Reading.{Parts, text_parts, read_with}
use Rattle.format.specs.LookingUp.{stands_in_text}
use Rattle.format.specs.Layout.{empty_message}
use Rattle.format.specs.Lending.{head_lent, both_lent, length_of, lengths, zeroed, ReadInto, ReadLeaves, ParsedWith}
use Rattle.format.specs.declared.Numbers.{Numbers}
use Rattle.format.specs.declared.CpimMessage.{CpimMessage}
use Rattle.format.specs.Told.{told, meant}
use Rattle.format.specs.declared.refusal.Refusal as code
use Rattle.format.specs.declared.refusal.Refusal.TheVariants as kinds
use Rattle.format.proofs.Steps.{accepted_same, refused_accepted, bind_accepted}
use Rattle.sections.proofs.Joining.{body_crlf}
use Rattle.sections.proofs.BodyParts.{filled_body}
use Rattle.read_split.specs.TextJudged.{body_behind}
use Rattle.read.specs.declared.Head.{Head}
use Rattle.read.specs.SectionLines.{LinesRead}
use Rattle.read.specs.Heads.{any_body, read_head_with, message_in, stands_in, start_of, HeadParsedWith}
use Rattle.read.specs.TextLines.{read_lines_with, joined_over, copied_over, BodyStands}
use Rattle.read.proofs.LinesLoop.{zero_accepted, other_refused, err_number}
use Rattle.read.proofs.ReadStores.{bodied, body_into}
use Rattle.read.proofs.BodyLast.{lines_refused, read_long, read_short, read_whole}

-- zeros over a store that kept its length
pub zeros_kept : (a b after : Bytes) → length a ≡ length b → after ≡ zeroed a → after ≡ zeroed b
zeros_kept a b after e f = f ∙ ap (λ (n : ℕ). replicate n 0) e

-- a store with room for the body holds it once its sections are joined over it, or it is copied there
pub body_stored : (crlf : Bool) (s d : Bytes) → length (body_behind crlf s) ≤ length d → copied_over crlf s (joined_over crlf s d) ≡ over (body_behind crlf s) d
body_stored true s d h = rw (body_crlf s) refl
body_stored false s d h = filled_body (pieces (split lf_lf_text s)) d h

-- A refusal, of `parse_head` and of `parse_cpim`.
module _ (reader : Bytes → Out Header) (t head after : Bytes) (zeros : after ≡ zeroed head) (e : code.Refusal) where
  pub head_refused : told {A = Head} (Err e) ≡ numbers (read_head_with reader t (length head))
      → HeadParsedWith reader t (head_lent empty_message head) (head_lent empty_message after) (Err e)
  unfolding stands_in start_of
  head_refused h =
      let o = other_refused (read_head_with reader t (length head)) _ h (err_number Head e) in
      record {
        answered = h;
        left = subst (ReadLeaves (head_lent empty_message head) (head_lent empty_message after)) (sym o.1) (λ i. head_lent empty_message (zeros i));
        inside = sym (ap (stands_in t) o.1);
        begins = sym (ap (start_of t) o.1);
        there = λ m g. refused_accepted o.0 m (sym o.1 ∙ g);
      }

  pub whole_refused : (body kept : Bytes) → kept ≡ zeroed body → told {A = CpimMessage} (Err e) ≡ numbers (read_with reader t (lengths (both_lent empty_message head body)))
      → ParsedWith reader t (both_lent empty_message head body) (both_lent empty_message after kept) (told {A = CpimMessage} (Err e))
  whole_refused body kept g h =
      let o = other_refused (read_with reader t (lengths (both_lent empty_message head body))) _ h (err_number CpimMessage e) in
      record {
        answered = h;
        left = subst (ReadLeaves (both_lent empty_message head body) (both_lent empty_message after kept)) (sym o.1) (λ i. both_lent empty_message (zeros i) (g i));
      }

-- the same of a result that is a refusal
pub head_refused_by : (reader : Bytes → Out Header) (t head after : Bytes) → after ≡ zeroed head → (q : Result Head code.Refusal) → is_err q ≡ true
    → told q ≡ numbers (read_head_with reader t (length head)) → HeadParsedWith reader t (head_lent empty_message head) (head_lent (message_in q) after) q
head_refused_by reader t head after z (Ok h) e n = absurd (true≢false (sym e))
head_refused_by reader t head after z (Err r) e n = head_refused reader t head after z r n

pub whole_refused_by : (reader : Bytes → Out Header) (t head after : Bytes) → after ≡ zeroed head → (body kept : Bytes) → kept ≡ zeroed body
    → (q : Result CpimMessage code.Refusal) → is_err q ≡ true → told q ≡ numbers (read_with reader t (lengths (both_lent empty_message head body)))
    → ParsedWith reader t (both_lent empty_message head body) (both_lent (result_unwrap_or q empty_message) after kept) (told q)
whole_refused_by reader t head after z body kept y (Ok h) e n = absurd (true≢false (sym e))
whole_refused_by reader t head after z body kept y (Err r) e n = whole_refused reader t head after z r body kept y n

-- What the lines of a text give: m and after are what they leave, n is what is answered.
module _ (reader : Bytes → Out Header) (t head : Bytes) (m : CpimMessage) (after : Bytes) (n : Numbers)
    (d : LinesRead (head_lent m after) n (read_lines_with reader t (length head))) where
  -- they are refused, and with them the reading, whatever the body store
  pub told_lines : (n.number ≡ 0 → ⊥) → (body : ℕ) → n ≡ numbers (read_with reader t (record { head = length head; body = body }))
  unfolding numbers
  told_lines z body =
      let o = other_refused (read_lines_with reader t (length head)) n d.answered z in
      d.answered ∙ ap numbers o.1 ∙ sym (ap numbers (lines_refused reader (record { head = length head; body = body }) t o.0 o.1))

  -- they are accepted, and the body stands behind a place
  module _ (z : n.number ≡ 0) (inside : Bool) (start : ℕ) (stands : (p : Parts) → text_parts t ≡ accepted p → BodyStands t inside start p.body) where
    message_is : Message
    message_is = (zero_accepted (read_lines_with reader t (length head)) n d.answered z).0

    is_read : read_lines_with reader t (length head) ≡ accepted message_is
    unfolding message_is
    is_read = (zero_accepted (read_lines_with reader t (length head)) n d.answered z).1

    parts_are : (p : Parts) × (text_parts t ≡ accepted p)
    unfolding read_lines_with
    parts_are = let p = bind_accepted (text_parts t) _ message_is is_read in (p.0, p.1)

    body_stands : BodyStands t inside start parts_are.0.body
    body_stands = stands parts_are.0 parts_are.1

    pub body_placed : (start ≤ length t) × (length t ≤ max_text)
    body_placed = (body_stands.within, body_stands.short)

    -- the body has b bytes
    module _ (b : ℕ) (size : b ≡ length (body_behind inside (drop start t))) where
      body_size : b ≡ length parts_are.0.body
      body_size = size ∙ sym (ap length body_stands.behind)

      -- 23, whatever the body store
      pub told_long : max_body < b → (body : ℕ) → table (meant (kinds.BodyTooLong b)) ≡ numbers (read_with reader t (record { head = length head; body = body }))
      unfolding numbers meant
      told_long long body =
          sym (ap numbers (read_long reader (record { head = length head; body = body }) t parts_are.0 parts_are.1 message_is is_read b body_size long))

      module _ (short : b ≤ max_body) where
        -- 26
        pub told_short : (body : ℕ) → body < b → table (meant (kinds.TooShort b)) ≡ numbers (read_with reader t (record { head = length head; body = body }))
        unfolding numbers meant
        told_short body l =
            sym (ap numbers (read_short reader (record { head = length head; body = body }) t parts_are.0 parts_are.1 message_is is_read b body_size short l))

        -- all is accepted: the head store is as long as it was
        module _ (kept : length after ≡ length head) where
          into : ReadInto (head_lent empty_message head) (head_lent (bodied m b) after) (with_body message_is parts_are.0.body)
          into = body_into m head after parts_are.0.body message_is b (d.held message_is is_read) kept body_size

          head-whole : read_head_with reader t (length head) ≡ accepted (with_body message_is parts_are.0.body)
          unfolding read_head_with any_body
          head-whole = read_whole reader (any_body (length head)) t parts_are.0 parts_are.1 message_is is_read b body_size short short

          head-left : ReadLeaves (head_lent empty_message head) (head_lent (bodied m b) after) (read_head_with reader t (length head))
          head-left = subst (ReadLeaves (head_lent empty_message head) (head_lent (bodied m b) after)) (sym head-whole) into

          -- `parse_head`, by whether the body stands in the text
          pub head-inside : inside ≡ true
              → HeadParsedWith reader t (head_lent empty_message head) (head_lent (bodied m b) after) (Ok (record { message = bodied m b; body = Some start }))
          unfolding stands_in start_of numbers told
          head-inside h =
              let in-text : stands_in_text t ≡ true = sym body_stands.separated ∙ h in
              let behind : parts_are.0.body ≡ drop start t = body_stands.behind ∙ ap (λ (x : Bool). body_behind x (drop start t)) h ∙ body_crlf (drop start t) in
              record {
                answered = sym (ap numbers head-whole);
                left = head-left;
                inside = sym in-text ∙ sym (ap (stands_in t) head-whole);
                begins = omega (arith, ap length behind, length-drop start t, body_stands.within)
                    ∙ sym (ap (λ (x : Bool). if x then length t - length parts_are.0.body else 0) in-text)
                    ∙ sym (ap (start_of t) head-whole);
                there = λ k g i. sym behind ∙ ap (λ (x : Message). x.body) (accepted_same (with_body message_is parts_are.0.body) k (sym head-whole ∙ g));
              }

          pub head-outside : inside ≡ false
              → HeadParsedWith reader t (head_lent empty_message head) (head_lent (bodied m b) after) (Ok (record { message = bodied m b; body = None }))
          unfolding stands_in start_of numbers told
          head-outside h =
              let in-text : stands_in_text t ≡ false = sym body_stands.separated ∙ h in
              record {
                answered = sym (ap numbers head-whole);
                left = head-left;
                inside = sym in-text ∙ sym (ap (stands_in t) head-whole);
                begins = sym (ap (λ (x : Bool). if x then length t - length parts_are.0.body else 0) in-text) ∙ sym (ap (start_of t) head-whole);
                there = λ k g i. absurd (true≢false (sym i ∙ in-text));
              }

          -- `parse_cpim`
          pub whole-stored : (body stored : Bytes) → b ≤ length body → stored ≡ copied_over inside (drop start t) (joined_over inside (drop start t) body)
              → ParsedWith reader t (both_lent empty_message head body) (both_lent (bodied m b) after stored) (record { number = 0; carried = 0 })
          unfolding lengths length_of numbers
          whole-stored body stored l e =
              let o = read_whole reader (record { head = length head; body = length body }) t parts_are.0 parts_are.1 message_is is_read b body_size short l in
              record {
                answered = sym (ap numbers o);
                left = subst (ReadLeaves (both_lent empty_message head body) (both_lent (bodied m b) after stored)) (sym o)
                    (record {
                      recorded = into.recorded;
                      laid = into.laid;
                      kept = into.kept;
                      stored = ap some (e ∙ body_stored inside (drop start t) body (omega arith) ∙ ap (λ (x : Bytes). over x body) (sym body_stands.behind));
                    });
              }

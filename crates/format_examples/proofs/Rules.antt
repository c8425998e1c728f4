-- The mistakes, the order of checks and the worked examples, each by computing its definitions. Assumes nothing.
use Prim.Native.Nat.{ℕ}
use mathlib.Core.Path.{◌≡◌, refl}
use lib.ListN.{length}
use Rattle.format.specs.Bytes.{Bytes, ascii}
use Rattle.format.specs.Refusals.{accepted, numbers, table, ◌carrying◌, refuse_if, at_most, ◌>>=◌, ◌>>◌}
use Rattle.format.specs.Calls.{body_length}
use Rattle.format.specs.Reading.{read, Parts, text_parts}
use Rattle.format.specs.LookingUp.{body_of_text, find_body}
use Rattle.format.specs.Writing.{writes}
use Rattle.format.specs.Lending.{makes, leaves, makes_header, leaves_header}
use Rattle.format.specs.Showing.{digits_from, decimal, show_numbers, show_message, show, showcpim}
use Rattle.format_examples.specs.Specimens.{roomy}
use Rattle.format_examples.specs.Rules.{Mistakes, Order, Rules, Senders, Lookups, Refused, Shown}
use Rattle.format.proofs.Computing.{computing}

pub mistakes : Mistakes
unfolding computing
mistakes =
    record { params = refl; tabs = refl; replacing = refl; white = refl; dotted = refl }

pub order : Order
unfolding computing
order =
    record { new_text = refl; new_type = refl; new_room = refl; new_body = refl; set_name = refl; set_count = refl; set_value = refl; set_room = refl; set_free = refl; add_value = refl; add_name = refl; add_count = refl; add_room = refl; content_name = refl; content_text = refl; content_many = refl; param_held = refl; param_utf8 = refl; param_name = refl; param_text = refl; param_many = refl; param_room = refl; obj_held = refl; obj_utf8 = refl; ns_utf8 = refl; ns_value = refl; lang_value = refl; lang_param = refl; lang_room = refl; read_utf8 = refl; read_few = refl; read_cpim = refl; read_room = refl; read_headers = refl; read_contents = refl; read_body = refl; line_name = refl; line_param = refl; line_params = refl; line_many = refl; line_again = refl }

pub rules : Rules
unfolding computing
rules =
    record { lower_case = refl; either_case = (refl, refl); upper_control = refl; short_forms = (refl, refl); refused_escapes = (refl, refl, refl, refl); non_shortest = refl; surrogates = refl; other_ill_formed = refl; truncated = refl; line_ends = refl; blank_header = refl; blank_content = refl; type_case = refl; param_wins = refl; appended = refl; body_in_text = (refl, refl); body_short = refl; body_written = refl; body_in_buffer = (refl, refl) }

pub senders : Senders
unfolding computing
senders =
    record { addressed = refl; empty_address = refl; no_address = refl; coach = refl; empty_name = refl; several = refl; covered_quote = refl; covered_backslash = refl; bare_backslash = refl; unclosed = refl; unclosed_again = refl; stray = refl; quote_behind = refl; escaped_quote = (refl, refl); escaped_backslash = (refl, refl); escaped_name = (refl, refl) }

long_text_lem : (t : Bytes) (n : ℕ) → length t ≡ 20971521 → numbers (find_body t n) ≡ 1 carrying 20971521
unfolding computing
long_text_lem t n h = rw h refl

long_body_lem : (t : Bytes) (n : ℕ) (p : Parts) → text_parts t ≡ accepted p → length p.body ≡ 10485761 → numbers (find_body t n) ≡ 23 carrying 10485761
unfolding find_body body_of_text body_length at_most refuse_if numbers table ◌>>=◌ ◌>>◌
long_body_lem t n p e h = rw (e, h) refl

pub lookups : Lookups
unfolding computing
lookups =
    record {
      first_value = refl;
      second_value = refl;
      third_value = refl;
      other_case = refl;
      ill_formed = refl;
      param_of = (refl, refl);
      alone_params = (refl, refl);
      type_and_body = (refl, refl);
      contents = (refl, refl);
      counts = (refl, refl, refl);
      body_text = (refl, refl);
      unheld = (refl, refl, refl, refl, refl, refl);
      long_text = long_text_lem;
      long_body = long_body_lem;
      refused_body = (refl, refl, refl);
    }

pub refused_calls : Refused
unfolding makes writes leaves makes_header leaves_header
refused_calls =
    record {
      made = λ l r. refl;
      read = λ l r. refl;
      zeros = refl;
      written = λ out r. refl;
      changed = λ l r. refl;
      made_header = λ store r. refl;
      param_set = λ l r. refl;
    }

at_most_lem : (input : Bytes) → length input ≡ 65536 → showcpim input ≡ show (read input roomy)
unfolding showcpim
at_most_lem input h = rw h refl

too_long_lem : (input : Bytes) → length input ≡ 65537 → showcpim input ≡ ascii "result=26\ncarried=65537\n"
unfolding showcpim show show_numbers show_message numbers table decimal digits_from
too_long_lem input h = rw h refl

pub shown : Shown
unfolding computing
shown = record { printed = refl; refused_printed = refl; type_escaped = refl; at_most = at_most_lem; too_long = too_long_lem; capped = refl }

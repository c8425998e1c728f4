-- A plain entry in a store. Assumes nothing.
use mathlib.Core.Path.{◌≡◌, ap, ◌∙◌}
use mathlib.Core.List.{[]}
use Rattle.format.specs.Bytes.{Bytes}
use Rattle.format.specs.Layout.{entry_bytes}
use Rattle.store_splice.specs.Notations.{value_read}
use Rattle.store_splice.specs.NewEntries.{IsPlain, value_in, size_of, bytes_of}
use Rattle.store_splice.specs.Spliced.{entry_size}
use Rattle.store_splice.specs.declared.Notation.{Notation}
use Rattle.store_splice.specs.declared.NewEntry.{NewEntry}

module _ (name value : Bytes) (e : NewEntry) (plain : IsPlain name value e) where
  pub plain_value : value_in e ≡ value
  plain_value = ap (λ (n : Notation). value_read n e.text.now) plain.notation_is ∙ plain.text_is

  pub plain_size : size_of e ≡ entry_size name value []
  plain_size = λ i. entry_size (plain.name_is i) (plain_value i) (plain.tail_is i)

  pub plain_bytes : bytes_of e ≡ entry_bytes name value 0 []
  plain_bytes = λ i. entry_bytes (plain.name_is i) (plain_value i) (plain.params_are i) (plain.tail_is i)

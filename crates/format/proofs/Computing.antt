-- To unfold `computing` is to unfold every definition that an example computes with. Assumes nothing.
use Rattle.format.specs.Bytes.{is_empty, all, any, total, texts, same, before, begins, occurs, up_to, past, lower, same_letters, split_from, join}
use Rattle.format.specs.Characters.{trail_in, fits, well_formed, matched, chars_from, chars, is_utf8, code_point, is_scalar, encoding, is_white, is_control_code, is_control, is_ascii_control, drop_front, drop_back, trim_by, replaced, is_lost, last_of, clear_of, clear_ends}
use Rattle.format.specs.Escaping.{digit, unicode_escape, short_form, escape_char, escape, end_form, last_forms, value_forms, value_text, digit_value, first_digit, four_digits, scalar_escape, long_escape, apostrophe_escape, short_escape, escape_at, unescape_from}
use Rattle.format.specs.Refusals.{table, numbers, ◌>>=◌, ◌>>◌, refuse_if, at_most}
use Rattle.format.specs.Validators.{reserved_in_name, reserved_in_param_name, reserved_in_param_value, header_name, header_value, content_value, param_name, param_value, content_type, utf8}
use Rattle.format.specs.Message.{insert, without, only, put, need_entry, need_alone, need_header, need}
use Rattle.format.specs.Calls.{room, enough, body_length, header_count, param_count, content_count, if_room, body_set, append, content_header_added, set_param, new, header_set, header_added, header_obj_added, alone_of, add_param, if_room_alone, new_header, with_param, ns_value, arguments, change, answer, lends, header_held}
use Rattle.format.specs.Writing.{param_text, header_line, content_line, type_line, write, to_text, writes}
use Rattle.format.specs.Reading.{each, separator, sections, line_end, lines, read_param, checked_value, read_value, read_parts, read_header, read_type, read_named, read_content_line, says_cpim, body_of, read_line, read_header_line, parts_of, text_parts, read_name_and_value, read_with}
use Rattle.format.specs.ReadingRfc.{read_param_rfc, misplaced, read_right, read_header_rfc}
use Rattle.format.specs.LookingUp.{nth, nth_header, get_header_value, get_header, get_param, get_type, get_body, get_content, alone_value, alone_param, body_as_str, body_length_of, count_headers, count_params, count_contents, closed, opens, quoting_behind, past_opening, address, body_of_text, stands_in_text, buffer_for, find_body, buffer_after, body_part}
use Rattle.format.specs.Showing.{digits_from, decimal, show_numbers, show_message, show, showcpim}
use Rattle.format.specs.Demand3.{has_header, no_param, not_type, clear_name, clear_content, comes_back}
use Rattle.format.specs.SecondReading.{spaceless_param, spaceless, comes_back_rfc}

unfoldable pub computing : Unit {0}
unfolding all any total texts same before begins occurs up_to past lower same_letters split_from join trail_in fits well_formed matched chars_from chars is_utf8 code_point is_scalar encoding is_white is_control_code is_control is_ascii_control drop_front drop_back trim_by replaced is_lost last_of clear_of clear_ends digit unicode_escape short_form escape_char escape end_form last_forms value_forms value_text digit_value first_digit four_digits scalar_escape long_escape apostrophe_escape short_escape escape_at unescape_from table numbers ◌>>=◌ ◌>>◌ refuse_if at_most is_empty reserved_in_name reserved_in_param_name reserved_in_param_value header_name header_value content_value param_name param_value content_type utf8 insert without only put need_entry need_alone need_header need room enough body_length header_count param_count content_count if_room body_set append content_header_added set_param param_text header_line content_line type_line write each separator sections line_end lines read_param checked_value read_value read_parts read_header read_type read_named read_content_line says_cpim body_of read_line read_header_line parts_of text_parts read_name_and_value read_with read_param_rfc misplaced read_right read_header_rfc new header_set header_added header_obj_added alone_of add_param if_room_alone new_header with_param ns_value arguments change lends header_held answer to_text nth nth_header get_header_value get_header get_param get_type get_body get_content alone_value alone_param body_as_str body_length_of writes count_headers count_params count_contents closed opens quoting_behind past_opening address body_of_text stands_in_text buffer_for find_body buffer_after body_part digits_from decimal show_numbers show_message show showcpim has_header no_param not_type clear_name clear_content comes_back spaceless_param spaceless comes_back_rfc
computing = tt

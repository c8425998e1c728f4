-- Document 01, "Taken over, and made afresh": the lengths, in bytes, and counts that are allowed at most. The source's name stands
-- beside each. Assumes nothing.
use Rattle.std.specs.Prelude.{ℕ}

-- MAX_PARSE_SIZE
abbrev pub max_text : ℕ
max_text = 20971520

-- MAX_BODY_SIZE
abbrev pub max_body : ℕ
max_body = 10485760

-- MAX_HEADER_NAME_LENGTH
abbrev pub max_name : ℕ
max_name = 128

-- MAX_HEADER_VALUE_LENGTH, of a header and of a content header
abbrev pub max_value : ℕ
max_value = 1024

-- MAX_PARAM_NAME_LENGTH
abbrev pub max_param_name : ℕ
max_param_name = 64

-- MAX_PARAM_VALUE_LENGTH
abbrev pub max_param_value : ℕ
max_param_value = 256

-- MAX_CONTENT_TYPE_LENGTH
abbrev pub max_type : ℕ
max_type = 256

-- MAX_HEADERS, counted over all names
abbrev pub max_headers : ℕ
max_headers = 50

-- MAX_PARAMS_PER_HEADER
abbrev pub max_params : ℕ
max_params = 10

-- MAX_CONTENT_HEADERS
abbrev pub max_contents : ℕ
max_contents = 20

-- How large a text may be.
use Rattle.std.specs.Prelude.{ℕ}
use Rattle.c_tokens.specs.declared.limits.TheConstants.{MAX_SOURCE_BYTES, MAX_TOKENS}

-- the longest text that is read, in bytes
abbrev pub max_source_bytes : ℕ
max_source_bytes = MAX_SOURCE_BYTES

-- the most tokens that a text may have
abbrev pub max_tokens : ℕ
max_tokens = MAX_TOKENS

-- Which constructs each dialect has.
use Rattle.std.specs.Prelude.{true, false}
use Rattle.starlark_lexer.specs.declared.dialect.Dialect.{Dialect}
use Rattle.starlark_lexer.specs.declared.dialect.DialectTypes.TheVariants.{Disable, Enable}

-- Definitions, lambdas and loads.
abbrev pub standard : Dialect
standard = record {
  enable_def = true;
  enable_lambda = true;
  enable_load = true;
  enable_keyword_only_arguments = false;
  enable_positional_only_arguments = false;
  enable_types = Disable;
  enable_load_reexport = true;
  enable_top_level_stmt = false;
  enable_f_strings = false;
}

-- Markers of parameters, types, and statements at top level too.
abbrev pub extended : Dialect
extended = record standard { enable_keyword_only_arguments = true; enable_positional_only_arguments = true; enable_types = Enable; enable_top_level_stmt = true }

-- f-strings too.
abbrev pub all_options : Dialect
all_options = record extended { enable_f_strings = true }

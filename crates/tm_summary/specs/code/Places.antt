-- Where counting begins, for a private contract.
use Rattle.std.specs.Prelude.{List, replicate}
use Rattle.tm_summary.specs.declared.application.ApplicationCounts.{ApplicationCounts}
use Rattle.tm_summary.specs.Adding.{no_application}

-- an application for which nothing came, for each channel and application
unfoldable pub no_applications : List ApplicationCounts
no_applications = replicate 16384 no_application

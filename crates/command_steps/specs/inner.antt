pub mod ReportStages
